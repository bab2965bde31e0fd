-- The numbers are within the limits, and the list passed the tests of one.
use Rattle.std.proofs.Common.{◌≡◌, rules, sym, ◌∙◌, ap, SFits, to_z-of_z}
use mir.Syntax.{w128}
use Rattle.model_text.specs.ModelText.{are_misshapen, has_fall}
use Rattle.model_text.proofs.SoundLists.{sound-shaped, sound-curve, within, filled}
use Rattle.model_text.proofs.part.Numbers.into_curve.Goals as goal

pub of_tested-requires : goal.of_tested-requires
of_tested-requires c =
    let self = c.args.self in
    let fits : SFits w128 c.from.result = search rules in
    let shape = ap (are_misshapen c.args.node) (sym c.deref.ensures.value) ∙ sym c.are_misshapen.ensures ∙ c.if-are_misshapen.false in
    let order = ap has_fall (sym c.deref-2.ensures.value) ∙ sym c.has_fall.ensures ∙ c.if-has_fall.false in
    let shown : c.in-Ok.items.items ≡ filled self.items.items = c.in-Ok.ensures in
    let based : c.from.result ≡ self.base = search rules in
    rw (to_z-of_z fits, shown, based)
    (sound-curve (filled self.items.items) self.base (sound-shaped self.items.items c.args.node self.short self.within shape order) (within self.base self.base_within))

-- What `curve` answers to a model: the list and base of an arc's curve, and of its conjugate. The points of the conjugate are slopes of the curve, and
-- the other way round, so they are written as those are.
use Rattle.std.specs.Prelude.{◌≡◌, ℕ, List, [], ◌∷◌, ◌++◌, codes, Option, Some, None}
use Rattle.theory.specs.CurveList.{Listing}
use Rattle.theory.specs.Views.{conjugate_of}
use Rattle.theory.specs.Grounded.{Entries}
use Rattle.model_text.specs.Model.{arc_at, arc_names, place_of}
use Rattle.model_text.specs.Printed.{printed_fixed, printed_line, printed_list}
use Rattle.model_text.specs.Scale.{cost_decimals}
use Rattle.model_text.specs.declared.scale.Scale.{Scale}
use Rattle.mono_top.specs.Lines.{unknown_arc_line}
use Rattle.mono_top.specs.declared.status.Status.{Status}
use Rattle.mono_top.specs.declared.status.Status.TheVariants.{Done, UnknownArc}

-- the base is always written
abbrev pub listing_line : Scale → List ℕ → Listing → List ℕ
listing_line s keyword c =
    printed_line keyword (printed_list s.flow s.tension c.items ++ codes "base" ∷ printed_fixed (cost_decimals s) c.base ∷ [])

-- the scale at which the conjugate is a curve
abbrev pub conjugate_scale : Scale → Scale
conjugate_scale s = record { version = s.version; flow = s.tension; tension = s.flow }

abbrev pub curve_text : Scale → Listing → List ℕ
curve_text s c = listing_line s (codes "curve") c ++ listing_line (conjugate_scale s) (codes "conjugate") (conjugate_of c)

-- by the position of the arc's name
abbrev pub ShowsAt : Scale → Entries → Option ℕ → Status → List ℕ → Type 0
ShowsAt s m (Some j) status text = (status ≡ Done) × (text ≡ curve_text s (arc_at m j).curve)
ShowsAt s m None status text = (status ≡ UnknownArc) × (text ≡ unknown_arc_line)

abbrev pub ShowsCurve : List ℕ → Scale → Entries → Status → List ℕ → Type 0
ShowsCurve arc s m status text = ShowsAt s m (place_of (arc_names m) arc) status text

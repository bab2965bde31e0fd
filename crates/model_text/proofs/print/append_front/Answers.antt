use Rattle.std.proofs.Common.{◌≡◌, ℕ, ◌==◌, ◌++◌, ◌∷◌, [], List, OnOk, false, arith, subst, append_assoc}
use Rattle.std.proofs.lemmas.Bool.Decides.{nat_tests}
use Rattle.model_text.specs.Printed.{printed_front}
use Rattle.model_text.proofs.print.append_front.Goals as goal

pub returns : goal.returns
returns c =
    let other : (c.args.scale.version == 1) ≡ false = grind (arith, nat_tests) in
    let whole : c.append_word-2.new.out.items ++ [] ++ 10 ∷ [] ≡ c.args.out.now.items ++ printed_front c.args.scale =
    rw (c.in_ok-append_word-2.ensures.ok, c.in_ok-append_word.ensures.ok, c.in_ok-extend_from_slice.ensures.items, c.in_ok-append_line.ensures.ok, other) (simp append_assoc) in
    subst (λ (l : List ℕ). OnOk c.append_line-3.result (c.append_line-3.new.out.items ≡ l)) whole c.append_line-3.ensures.ok

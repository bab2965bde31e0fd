-- The two steps over an arc.
use Rattle.std.proofs.Common.{◌≡◌, ◌⊎◌, ℕ, Bool, true, false, inl, inr, refl, subst}
use Rattle.theory.specs.declared.network.Step.{Step}
use Rattle.theory.specs.Network.{Network}
use Rattle.theory.specs.Circuit.{begin_of, end_of}
use Rattle.net_incidence.specs.Incidence.{over}

-- r goes where s came from
pub record IsTurned (net : Network) (r s : Step) : Type 0 where
  pub begins : begin_of net r ≡ end_of net s
  pub ends : end_of net r ≡ begin_of net s
  pub ways : (r.forward ≡ true × s.forward ≡ false) ⊎ (r.forward ≡ false × s.forward ≡ true)

over_one_arc : (net : Network) (j : ℕ) (a b : Bool) → (over j a ≡ over j b) ⊎ IsTurned net (over j a) (over j b)
over_one_arc net j true true = inl refl
over_one_arc net j true false = inr (record { begins = refl; ends = refl; ways = inl (refl, refl) })
over_one_arc net j false true = inr (record { begins = refl; ends = refl; ways = inr (refl, refl) })
over_one_arc net j false false = inl refl

-- two steps over one arc are the same, or each is the other turned
pub one_arc : (net : Network) (r s : Step) → r.arc.0 ≡ s.arc.0 → (r ≡ s) ⊎ IsTurned net r s
one_arc net r s same =
    let P : ℕ → Type 0 = λ j. (r ≡ over j s.forward) ⊎ IsTurned net r (over j s.forward) in
    subst P same (over_one_arc net r.arc.0 r.forward s.forward)

-- States one draw after the other.
use Rattle.std.proofs.Common.{◌≡◌, ℕ, zero, suc, ◌+◌, ◌*◌, ◌<◌, ◌/◌, ◌%◌, ◌^◌, refl, ap, ◌∙◌, add-one, arith}
use Rattle.std.proofs.Math.Nat.{mod-add-mod}
use Rattle.trial_model.specs.Generator.{advance, state_after, drawn}

-- what the code computes
pub advanced : (state next : ℕ) → next ≡ (state * 6364136223846793005 % 2 ^ 64 + 1442695040888963407) % 2 ^ 64 → next ≡ state_after state 1
unfolding state_after advance
advanced state next is = is ∙ mod-add-mod (state * 6364136223846793005) (2 ^ 64) 1442695040888963407

pub draws : (state bound : ℕ) → state_after state 1 / 2 ^ 33 % bound ≡ drawn state 1 bound
unfolding drawn
draws state bound = refl

pub drawn-below : (state number bound : ℕ) → 0 < bound → drawn state number bound < bound
unfolding drawn
drawn-below state number bound some = omega arith

pub none_drawn : (state : ℕ) → state_after state 0 ≡ state
unfolding state_after
none_drawn state = refl

pub state-more : (state draws : ℕ) → state_after state (draws + 1) ≡ state_after (state_after state draws) 1
unfolding state_after
state-more state draws = rw add-one refl

-- the draws after some are those of the state that these left
pub state-add : (state m n : ℕ) → state_after (state_after state m) n ≡ state_after state (m + n)
unfolding state_after
state-add state m zero = let e : m ≡ m + 0 = omega arith in ap (state_after state) e
state-add state m (suc n) = let e : suc (m + n) ≡ m + suc n = omega arith in ap advance (state-add state m n) ∙ ap (state_after state) e

pub drawn-add : (state m n bound : ℕ) → drawn (state_after state m) n bound ≡ drawn state (m + n) bound
unfolding drawn
drawn-add state m n bound = ap (λ s. s / 2 ^ 33 % bound) (state-add state m n)

-- one draw further
pub later_state : (state n before after : ℕ) → before ≡ state_after state n → after ≡ state_after before 1 → after ≡ state_after state (n + 1)
later_state state n before after is next = next ∙ ap (λ s. state_after s 1) is ∙ state-add state n 1

pub later_draw : (state n before bound draw : ℕ) → before ≡ state_after state n → draw ≡ drawn before 1 bound → draw ≡ drawn state (n + 1) bound
later_draw state n before bound draw is this = this ∙ ap (λ s. drawn s 1 bound) is ∙ drawn-add state n 1 bound

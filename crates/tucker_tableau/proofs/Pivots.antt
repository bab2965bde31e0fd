-- The two laws after a pivot, over plain sums. With p the entry of the pivot, p * p = 1. Each of the four laws compares the
-- new sum with a combination of the old ones: their terms agree off the place of the pivot, so the sums differ by the terms
-- there, and p * p = 1 does the rest.
use Rattle.std.proofs.Common.{◌≡◌, ◌≢◌, ℕ, ◌<◌, ℤ, pos, ◌+ℤ◌, ◌-ℤ◌, ◌*ℤ◌, neg_ℤ, sym, ap, ap₂, ◌∙◌, arith}
use Rattle.theory.specs.Sums.{sum_below}
use Rattle.theory.proofs.Rings.{rings, one_times}
use Rattle.theory.proofs.SumsBelow.{sum_below-add, sum_below-mul, sum_below-change}

-- ---- products

pub square_out : (p z : ℤ) → p *ℤ p ≡ pos 1 → p *ℤ (p *ℤ z) ≡ z
square_out p z square =
    let h : (p *ℤ p) *ℤ z ≡ pos 1 *ℤ z = ap (λ w. w *ℤ z) square in
    let one = one_times z in
    omega (arith, rings)

regroup : (p e w : ℤ) → (p *ℤ e) *ℤ w ≡ e *ℤ (p *ℤ w)
regroup p e w = omega (arith, rings)

pub square_through : (p e q z : ℤ) → q ≡ p *ℤ e → p *ℤ p ≡ pos 1 → q *ℤ (p *ℤ z) ≡ e *ℤ z
square_through p e q z is square =
    ap (λ v. v *ℤ (p *ℤ z)) is ∙ regroup p e (p *ℤ z) ∙ ap (λ v. e *ℤ v) (square_out p z square)

out_of_product : (p b x : ℤ) → neg_ℤ (p *ℤ b) *ℤ x ≡ neg_ℤ p *ℤ (b *ℤ x)
out_of_product p b x = omega (arith, rings)

spread : (d q b x : ℤ) → (d -ℤ q *ℤ b) *ℤ x ≡ d *ℤ x +ℤ neg_ℤ q *ℤ (b *ℤ x)
spread d q b x = omega (arith, rings)

assoc : (p b x : ℤ) → (p *ℤ b) *ℤ x ≡ p *ℤ (b *ℤ x)
assoc p b x = omega (arith, rings)

turn : (p b c : ℤ) → (p *ℤ b) *ℤ c ≡ (p *ℤ c) *ℤ b
turn p b c = omega (arith, rings)

-- ---- a conserved flow on the arc that enters the tree

entering_end : (p y z sf sg fs gs : ℤ) → sg +ℤ fs ≡ sf +ℤ gs → sf ≡ neg_ℤ p *ℤ y → fs ≡ neg_ℤ p *ℤ (p *ℤ z) → gs ≡ p *ℤ y
    → p *ℤ (p *ℤ z) ≡ z → z ≡ sg
entering_end p y z sf sg fs gs change total f_there g_there square = omega (arith, rings)

pub flow_entering : (m s : ℕ) (b X c Y : ℕ → ℤ) (p y z : ℤ) → s < m → p *ℤ p ≡ pos 1
    → b s ≡ p → X s ≡ z → c s ≡ p → Y s ≡ y
    → ((k : ℕ) → k < m → k ≢ s → c k ≡ neg_ℤ (p *ℤ b k)) → ((k : ℕ) → k < m → k ≢ s → Y k ≡ X k)
    → y ≡ sum_below m (λ j. b j *ℤ X j) → z ≡ sum_below m (λ j. c j *ℤ Y j)
flow_entering m s b X c Y p y z there square bs xs cs ys c_other y_other law =
    let f : ℕ → ℤ = λ k. neg_ℤ p *ℤ (b k *ℤ X k) in
    let g : ℕ → ℤ = λ k. c k *ℤ Y k in
    let change : sum_below m g +ℤ f s ≡ sum_below m f +ℤ g s =
    sum_below-change m s f g there (λ k l ne. ap₂ (λ v w. v *ℤ w) (c_other k l ne) (y_other k l ne) ∙ out_of_product p (b k) (X k)) in
    entering_end p y z (sum_below m f) (sum_below m g) (f s) (g s) change
    (sum_below-mul m (neg_ℤ p) (λ j. b j *ℤ X j) ∙ ap (λ w. neg_ℤ p *ℤ w) (sym law))
    (ap₂ (λ v w. neg_ℤ p *ℤ (v *ℤ w)) bs xs) (ap₂ (λ v w. v *ℤ w) cs ys) (square_out p z square)

-- ---- on the other arcs of the tree

other_end : (p q e x y z sf sg fs gs : ℤ) → sg +ℤ fs ≡ sf +ℤ gs → sf ≡ x +ℤ neg_ℤ q *ℤ y → fs ≡ e *ℤ z +ℤ neg_ℤ q *ℤ (p *ℤ z)
    → gs ≡ q *ℤ y → q *ℤ (p *ℤ z) ≡ e *ℤ z → x ≡ sg
other_end p q e x y z sf sg fs gs change total f_there g_there square = omega (arith, rings)

pub flow_other : (m s : ℕ) (d b X c Y : ℕ → ℤ) (p e q x y z : ℤ) → s < m → p *ℤ p ≡ pos 1 → q ≡ p *ℤ e
    → b s ≡ p → d s ≡ e → X s ≡ z → c s ≡ q → Y s ≡ y
    → ((k : ℕ) → k < m → k ≢ s → c k ≡ d k -ℤ q *ℤ b k) → ((k : ℕ) → k < m → k ≢ s → Y k ≡ X k)
    → y ≡ sum_below m (λ j. b j *ℤ X j) → x ≡ sum_below m (λ j. d j *ℤ X j) → x ≡ sum_below m (λ j. c j *ℤ Y j)
flow_other m s d b X c Y p e q x y z there square product bs ds xs cs ys c_other y_other law_r law_i =
    let f1 : ℕ → ℤ = λ k. d k *ℤ X k in
    let f2 : ℕ → ℤ = λ k. neg_ℤ q *ℤ (b k *ℤ X k) in
    let f : ℕ → ℤ = λ k. f1 k +ℤ f2 k in
    let g : ℕ → ℤ = λ k. c k *ℤ Y k in
    let change : sum_below m g +ℤ f s ≡ sum_below m f +ℤ g s =
    sum_below-change m s f g there (λ k l ne. ap₂ (λ v w. v *ℤ w) (c_other k l ne) (y_other k l ne) ∙ spread (d k) q (b k) (X k)) in
    let scaled : sum_below m f2 ≡ neg_ℤ q *ℤ y = sum_below-mul m (neg_ℤ q) (λ j. b j *ℤ X j) ∙ ap (λ w. neg_ℤ q *ℤ w) (sym law_r) in
    other_end p q e x y z (sum_below m f) (sum_below m g) (f s) (g s) change
    (sum_below-add m f1 f2 ∙ ap₂ (λ v w. v +ℤ w) (sym law_i) scaled)
    (ap₂ (λ v w. v +ℤ w) (ap₂ (λ v w. v *ℤ w) ds xs) (ap₂ (λ v w. neg_ℤ q *ℤ (v *ℤ w)) bs xs))
    (ap₂ (λ v w. v *ℤ w) cs ys) (square_through p e q z product square)

-- ---- a tension on the arc that leaves the tree

leaving_end : (p w t S sf sg fs gs : ℤ) → sg +ℤ fs ≡ sf +ℤ gs → sf ≡ p *ℤ S → fs ≡ p *ℤ (p *ℤ t) → gs ≡ p *ℤ neg_ℤ S
    → p *ℤ (p *ℤ t) ≡ t → t ≡ neg_ℤ sg
leaving_end p w t S sf sg fs gs change total f_there g_there square = omega (arith, rings)

pub tension_leaving : (n r : ℕ) (b V c W : ℕ → ℤ) (p w t : ℤ) → r < n → p *ℤ p ≡ pos 1
    → b r ≡ p → V r ≡ t → c r ≡ p → W r ≡ w
    → ((k : ℕ) → k < n → k ≢ r → c k ≡ p *ℤ b k) → ((k : ℕ) → k < n → k ≢ r → W k ≡ V k)
    → w ≡ neg_ℤ (sum_below n (λ i. b i *ℤ V i)) → t ≡ neg_ℤ (sum_below n (λ i. c i *ℤ W i))
tension_leaving n r b V c W p w t there square br vr cr wr c_other w_other law =
    let f : ℕ → ℤ = λ k. p *ℤ (b k *ℤ V k) in
    let g : ℕ → ℤ = λ k. c k *ℤ W k in
    let S = sum_below n (λ i. b i *ℤ V i) in
    let change : sum_below n g +ℤ f r ≡ sum_below n f +ℤ g r =
    sum_below-change n r f g there (λ k l ne. ap₂ (λ v w. v *ℤ w) (c_other k l ne) (w_other k l ne) ∙ assoc p (b k) (V k)) in
    leaving_end p w t S (sum_below n f) (sum_below n g) (f r) (g r) change (sum_below-mul n p (λ i. b i *ℤ V i))
    (ap₂ (λ v w. p *ℤ (v *ℤ w)) br vr) (ap₂ (λ v w. v *ℤ w) cr (wr ∙ law)) (square_out p t square)

-- ---- on the other arcs off the tree

apart_end : (p q c v t A S sf sg fs gs : ℤ) → sg +ℤ fs ≡ sf +ℤ gs → sf ≡ A +ℤ neg_ℤ q *ℤ S → fs ≡ c *ℤ t +ℤ neg_ℤ q *ℤ (p *ℤ t)
    → gs ≡ neg_ℤ q *ℤ neg_ℤ S → q *ℤ (p *ℤ t) ≡ c *ℤ t → v ≡ neg_ℤ A → v ≡ neg_ℤ sg
apart_end p q c v t A S sf sg fs gs change total f_there g_there square law = omega (arith, rings)

pub tension_other : (n r : ℕ) (d b V c W : ℕ → ℤ) (p e q v w t : ℤ) → r < n → p *ℤ p ≡ pos 1 → q ≡ p *ℤ e
    → d r ≡ e → b r ≡ p → V r ≡ t → c r ≡ neg_ℤ q → W r ≡ w
    → ((k : ℕ) → k < n → k ≢ r → c k ≡ d k -ℤ (p *ℤ b k) *ℤ e) → ((k : ℕ) → k < n → k ≢ r → W k ≡ V k)
    → w ≡ neg_ℤ (sum_below n (λ i. b i *ℤ V i)) → v ≡ neg_ℤ (sum_below n (λ i. d i *ℤ V i)) → v ≡ neg_ℤ (sum_below n (λ i. c i *ℤ W i))
tension_other n r d b V c W p e q v w t there square product dr br vr cr wr c_other w_other law_s law_j =
    let f1 : ℕ → ℤ = λ k. d k *ℤ V k in
    let f2 : ℕ → ℤ = λ k. neg_ℤ q *ℤ (b k *ℤ V k) in
    let f : ℕ → ℤ = λ k. f1 k +ℤ f2 k in
    let g : ℕ → ℤ = λ k. c k *ℤ W k in
    let S = sum_below n (λ i. b i *ℤ V i) in
    let turned : (k : ℕ) → (p *ℤ b k) *ℤ e ≡ q *ℤ b k = λ k. turn p (b k) e ∙ ap (λ m. m *ℤ b k) (sym product) in
    let change : sum_below n g +ℤ f r ≡ sum_below n f +ℤ g r =
    sum_below-change n r f g there
    (λ k l ne. ap₂ (λ v w. v *ℤ w) (c_other k l ne ∙ ap (λ m. d k -ℤ m) (turned k)) (w_other k l ne) ∙ spread (d k) q (b k) (V k)) in
    apart_end p q e v t (sum_below n f1) S (sum_below n f) (sum_below n g) (f r) (g r) change
    (sum_below-add n f1 f2 ∙ ap (λ m. sum_below n f1 +ℤ m) (sum_below-mul n (neg_ℤ q) (λ i. b i *ℤ V i)))
    (ap₂ (λ v w. v +ℤ w) (ap₂ (λ v w. v *ℤ w) dr vr) (ap₂ (λ v w. neg_ℤ q *ℤ (v *ℤ w)) br vr))
    (ap₂ (λ v w. v *ℤ w) cr (wr ∙ law_s)) (square_through p e q t product square) law_j

-- where one product of a sum is not 0 the sum is that product
pub tension_alone : (n r : ℕ) (b V : ℕ → ℤ) → r < n → ((k : ℕ) → k < n → k ≢ r → V k ≡ pos 0)
    → sum_below n (λ i. b i *ℤ V i) ≡ b r *ℤ V r
tension_alone n r b V there none =
    let f : ℕ → ℤ = λ k. pos 0 *ℤ b k in
    let g : ℕ → ℤ = λ k. b k *ℤ V k in
    let change : sum_below n g +ℤ f r ≡ sum_below n f +ℤ g r =
    sum_below-change n r f g there (λ k l ne. ap (λ w. b k *ℤ w) (none k l ne) ∙ nothing (b k)) in
    let total = sum_below-mul n (pos 0) b in
    omega (arith, rings)
  where
    nothing : (x : ℤ) → x *ℤ pos 0 ≡ pos 0 *ℤ x
    nothing x = omega (arith, rings)

-- Each change is of an arc that is there, and leaves the counts of the network as they are.
use Rattle.std.proofs.Common.{◌≡◌, ℕ, ◌+◌, ◌*◌, ◌≤◌, ◌++◌, List, [], ◌∷◌, length, None, Ok, Err, sym, ap, ◌∙◌, subst, refl, append_assoc, arith, rules}
use Rattle.std.specs.Prelude.{Result, IfOk, IsNone}
use Rattle.std.specs.declared.alloc.AllocError.{AllocError}
use Rattle.std.proofs.Math.Nat.{add-mul}
use Rattle.theory.specs.Network.{Network}
use Rattle.theory.specs.Certificate.{Certificate, IsValid}
use Rattle.theory.specs.Grounded.{Entries, grounded}
use Rattle.theory.specs.Limits.{level_most}
use Rattle.theory.specs.ReadingBound.{reading_bound}
use Rattle.theory.proofs.GroundedLaw.{length-grounded_arcs}
use Rattle.model_text.specs.declared.scale.Scale.{Scale}
use Rattle.cert_text.specs.CertificateText.{certificate_text}
use Rattle.cert_text.specs.Shown.{shown}
use Rattle.warm_solve.specs.ChangesText.{Change}
use Rattle.model_text.proofs.FirstPlace.{none_left}
use Rattle.mono_top.specs.Fetch.{text_of}
use Rattle.mono_top.specs.NetBound.{net_bound}
use Rattle.mono_top.specs.Replies.{RepliesWith}
use Rattle.mono_top.specs.Resolves.{States, Resolves, changed, state_line}
use Rattle.mono_top.specs.Solves.{status_of}
use Rattle.mono_top.specs.declared.reply.Reply.{Reply}
use Rattle.mono_top.specs.declared.status.Status.{Status}
use Rattle.mono_top.proofs.ResolveLemmas.{Follows, with_line, fits_same, first_fit, others_fit}
use Rattle.mono_top.proofs.resolve.make_changes.Goals as goal

-- ---- the lines

begins : (s : Scale) (m : Entries) (net : Network) (kept first : Certificate) (changes : List Change) (before items : List ℕ) → net ≡ grounded m → first ≡ kept
    → IsValid net first → before ≡ [] → items ≡ before ++ state_line s 0 first
    → (status : Status) (rest : List ℕ) → Follows s m 0 net kept changes status rest → Resolves s m changes status (items ++ rest)
begins s m net kept first changes before items same is valid empty written status rest follows =
    let line : items ≡ state_line s 0 kept = written ∙ ap (λ (xs : List ℕ). xs ++ state_line s 0 first) empty ∙ ap (state_line s 0) is in
    let sound : IsValid (grounded m) kept = subst (λ (n : Network). IsValid n kept) same (subst (IsValid net) is valid) in
    let after : Follows s m 0 (grounded m) kept changes status rest = subst (λ (n : Network). Follows s m 0 n kept changes status rest) same follows in
    subst (λ (text : List ℕ). Resolves s m changes status (text ++ rest)) (sym line) (with_line s m 0 (grounded m) kept changes status rest sound after)

goes_on : (s : Scale) (m : Entries) (count : ℕ) (net other : Network) (before kept : Certificate) (all changes others : List Change) (change : Change) (items now : List ℕ)
    → changes ≡ change ∷ others → other ≡ changed net change → IsValid (changed net change) kept → now ≡ items ++ state_line s (count + 1) kept
    → ((status : Status) (rest : List ℕ) → Follows s m count net before changes status rest → Resolves s m all status (items ++ rest))
    → (status : Status) (rest : List ℕ) → Follows s m (count + 1) other kept others status rest → Resolves s m all status (now ++ rest)
goes_on s m count net other before kept all changes others change items now is net_is valid written so_far status rest follows =
    let line = state_line s (count + 1) kept in
    let after : Follows s m (count + 1) (changed net change) kept others status rest =
    subst (λ (n : Network). Follows s m (count + 1) n kept others status rest) net_is follows in
    let further : States s m (count + 1) (changed net change) others status (line ++ rest) =
    with_line s m (count + 1) (changed net change) kept others status rest valid after in
    let from : Follows s m count net before changes status (line ++ rest) =
    subst (λ (cs : List Change). Follows s m count net before cs status (line ++ rest)) (sym is) further in
    subst (λ (text : List ℕ). Resolves s m all status text) (sym (ap (λ (text : List ℕ). text ++ rest) written ∙ append_assoc items line rest))
    (so_far status (line ++ rest) from)

ends : (s : Scale) (m : Entries) (count : ℕ) (net : Network) (kept : Certificate) (all changes : List Change) (items last now : List ℕ) (status : Status)
    → changes ≡ [] → status ≡ status_of kept → last ≡ certificate_text s m kept → now ≡ items ++ last
    → ((status : Status) (rest : List ℕ) → Follows s m count net kept changes status rest → Resolves s m all status (items ++ rest)) → Resolves s m all status now
ends s m count net kept all changes items last now status none is last_is written so_far =
    let after : Follows s m count net kept changes status last =
    subst (λ (cs : List Change). Follows s m count net kept cs status last) (sym none) (is, last_is) in
    subst (λ (text : List ℕ). Resolves s m all status text) (sym written) (so_far status last after)

-- the reply, where there was memory for it
concluded : (s : Scale) (m : Entries) (count : ℕ) (net : Network) (kept last : Certificate) (all changes : List Change) (items : List ℕ) (result : Result Reply AllocError)
    → changes ≡ [] → last ≡ kept → IfOk result (λ reply. reply.status ≡ status_of last)
    → IfOk result (λ reply. text_of reply.text ≡ items ++ certificate_text s m last)
    → ((status : Status) (rest : List ℕ) → Follows s m count net kept changes status rest → Resolves s m all status (items ++ rest))
    → RepliesWith (Resolves s m all) result
concluded s m count net kept last all changes items (Err error) none same status text so_far = tt
concluded s m count net kept last all changes items (Ok reply) none same status text so_far =
    ends s m count net kept all changes items (certificate_text s m last) (text_of reply.text) reply.status
    none (status ∙ ap status_of same) (ap (certificate_text s m) same) text so_far

-- ---- the readings

change_more : (k n b : ℕ) → k ≡ n + 1 → 2 * k * b ≡ 2 * n * b + 2 * b
change_more k n b is = let e : 2 * k ≡ 2 * n + 2 = omega arith in ap (λ (x : ℕ). x * b) e ∙ add-mul (2 * n) 2 b

change_bound : (first before now k n b r most : ℕ) → r ≡ b → now ≤ before + 2 * r → k ≡ n + 1 → before + 2 * k * b ≤ first + most
    → now + 2 * n * b ≤ first + most
change_bound first before now k n b r most same read is bound = omega (arith, change_more k n b is)

end_bound : (first now k b most : ℕ) → now + 2 * k * b ≤ first + most → now ≤ first + most
end_bound first now k b most bound = omega arith

same_bound : (m : Entries) (net : Network) → net.nodes ≡ (grounded m).nodes → net.arcs ≡ (grounded m).arcs
    → reading_bound net.nodes (length net.arcs) level_most ≡ net_bound (grounded m)
same_bound m net nodes arcs = rw (nodes, arcs) refl

-- ---- the goals

pub loop-change-init : goal.loop-change-init
loop-change-init g c =
    let m = c.args.model.now.entries in
    let same : c.args.warm.now.network ≡ grounded m = c.requires.network in
    let empty : c.new-text.result.items ≡ [] = search rules in
    record {
      fit = c.requires.fit;
      made = omega arith;
      same_nodes = ap (λ (n : Network). n.nodes) same;
      same_arcs = ap (λ (n : Network). n.arcs) same;
      so_far = begins c.args.model.now.scale m c.args.warm.now.network c.args.warm.now.kept (shown c.kept.result.now) c.args.changes c.new-text.result.items c.append_state.new.out.items
          same c.kept.ensures.certificate c.kept.ensures.valid empty c.in_ok-append_state.ensures;
      no_fewer = omega arith;
      bounded = omega arith;
    }

pub overflow_add-count : goal.overflow_add-count
overflow_add-count g c =
    omega (arith, c.loop-change.invariant.made, ap length c.in-Some.ensures.first, c.requires.few)

pub change-requires-clause-there : goal.change-requires-clause-there
change-requires-clause-there g c =
    let m = c.args.model.now.entries in
    let fit = first_fit m c.loop-change.changes c.take.new.self _ c.in-Some.ensures.first c.loop-change.invariant.fit in
    let there = fit.there in
    omega (arith, there, ap length c.loop-change.invariant.same_arcs, length-grounded_arcs m)

pub change-requires-clause-short : goal.change-requires-clause-short
change-requires-clause-short g c =
    let m = c.args.model.now.entries in
    (first_fit m c.loop-change.changes c.take.new.self _ c.in-Some.ensures.first c.loop-change.invariant.fit).limits.short

pub change-requires-clause-base : goal.change-requires-clause-base
change-requires-clause-base g c =
    let m = c.args.model.now.entries in
    (first_fit m c.loop-change.changes c.take.new.self _ c.in-Some.ensures.first c.loop-change.invariant.fit).limits.base

pub loop-change-smaller : goal.loop-change-smaller
loop-change-smaller g c = omega (arith, ap length c.in-Some.ensures.first)

pub returns-in_err-change-clause-no_fewer : goal.returns-in_err-change-clause-no_fewer
returns-in_err-change-clause-no_fewer g c = omega (arith, c.loop-change.invariant.no_fewer, c.change.ensures.no_fewer)

pub returns-in_err-change-clause-bounded : goal.returns-in_err-change-clause-bounded
returns-in_err-change-clause-bounded g c =
    let m = c.args.model.now.entries in
    let its = c.loop-change.invariant in
    end_bound c.args.steps.now c.change.new.steps (length c.take.new.self) (net_bound (grounded m)) _
    (change_bound c.args.steps.now c.loop-change.steps c.change.new.steps (length c.loop-change.changes) (length c.take.new.self) (net_bound (grounded m)) _ _
    (same_bound m c.loop-change.warm.network its.same_nodes its.same_arcs) c.change.ensures.count (let e = ap length c.in-Some.ensures.first in omega (arith, e)) its.bounded)

pub loop-change-preserved : goal.loop-change-preserved
loop-change-preserved g c =
    let m = c.args.model.now.entries in
    let its = c.loop-change.invariant in
    let first = c.in-Some.ensures.first in
    record {
      fit = others_fit m c.loop-change.changes c.take.new.self _ first its.fit;
      made = omega (arith, its.made, ap length first);
      same_nodes = ap (λ (n : Network). n.nodes) c.in_ok-change.ensures.network ∙ its.same_nodes;
      same_arcs = ap (λ (n : Network). n.arcs) c.in_ok-change.ensures.network ∙ its.same_arcs;
      so_far = goes_on c.args.model.now.scale m c.loop-change.count c.loop-change.warm.network c.change.new.self.network c.loop-change.warm.kept c.change.new.self.kept
          c.args.changes c.loop-change.changes c.take.new.self _ c.loop-change.text.items c.append_state-in-Some.new.out.items first c.in_ok-change.ensures.network
          c.in_ok-change.ensures.valid (c.in_ok-append_state-2.ensures ∙ ap (λ (k : Certificate). c.loop-change.text.items ++ state_line c.args.model.now.scale (c.loop-change.count + 1) k) c.kept-in-Some.ensures.certificate)
          its.so_far;
      no_fewer = omega (arith, its.no_fewer, c.change.ensures.no_fewer);
      bounded = change_bound c.args.steps.now c.loop-change.steps c.change.new.steps (length c.loop-change.changes) (length c.take.new.self) (net_bound (grounded m)) _ _
          (same_bound m c.loop-change.warm.network its.same_nodes its.same_arcs) c.change.ensures.count (let e = ap length first in omega (arith, e)) its.bounded;
    }

pub returns-in_err-append_state-2-clause-no_fewer : goal.returns-in_err-append_state-2-clause-no_fewer
returns-in_err-append_state-2-clause-no_fewer g c = omega (arith, c.loop-change.invariant.no_fewer, c.change.ensures.no_fewer)

pub returns-in_err-append_state-2-clause-bounded : goal.returns-in_err-append_state-2-clause-bounded
returns-in_err-append_state-2-clause-bounded g c =
    let m = c.args.model.now.entries in
    let its = c.loop-change.invariant in
    end_bound c.args.steps.now c.change.new.steps (length c.take.new.self) (net_bound (grounded m)) _
    (change_bound c.args.steps.now c.loop-change.steps c.change.new.steps (length c.loop-change.changes) (length c.take.new.self) (net_bound (grounded m)) _ _
    (same_bound m c.loop-change.warm.network its.same_nodes its.same_arcs) c.change.ensures.count (let e = ap length c.in-Some.ensures.first in omega (arith, e)) its.bounded)

pub conclude-requires : goal.conclude-requires
conclude-requires g c =
    let m = c.args.model.now.entries in
    let its = c.loop-change.invariant in
    fits_same c.loop-change.warm.network (grounded m) _ its.same_nodes its.same_arcs c.kept-2.ensures.valid.fits

pub returns-clause-no_fewer : goal.returns-clause-no_fewer
returns-clause-no_fewer g c = c.loop-change.invariant.no_fewer

pub returns-clause-bounded : goal.returns-clause-bounded
returns-clause-bounded g c =
    end_bound c.args.steps.now c.loop-change.steps (length c.loop-change.changes) (net_bound (grounded c.args.model.now.entries)) _ c.loop-change.invariant.bounded

pub returns-clause-answers : goal.returns-clause-answers
returns-clause-answers g c =
    let m = c.args.model.now.entries in
    let its = c.loop-change.invariant in
    let gone : c.take.result ≡ None = none_left c.take.result c.in_default.not-Some in
    let none : c.loop-change.changes ≡ [] = c.take.ensures.none.0 (subst IsNone (sym gone) refl) in
    concluded c.args.model.now.scale m c.loop-change.count c.loop-change.warm.network c.loop-change.warm.kept (shown c.kept-2.result.now) c.args.changes c.loop-change.changes
    c.loop-change.text.items c.conclude.result none c.kept-2.ensures.certificate c.conclude.ensures.status c.conclude.ensures.text its.so_far

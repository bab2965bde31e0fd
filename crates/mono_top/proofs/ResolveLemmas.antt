-- Changes one after the other. The lines that were written so far wait for what follows: once it is known what follows a state, the text from the
-- model on is known. A changed network is a network, so the last certificate says of it what its kind says; and what a text spells of a model, and
-- where it is bad, is a function of both, so the answer to it is.
use Rattle.std.proofs.Common.{◌≡◌, ℕ, suc, ◌+◌, ◌≤◌, List, [], ◌∷◌, ◌++◌, length, Option, Some, refl, ap, ◌∙◌, subst, inl, inr, arith}
use Rattle.std.specs.Prelude.{All}
use Rattle.std.proofs.Math.Nat.{mul-le-mul_right}
use Rattle.std.specs.Option.{ForSome}
use Rattle.theory.specs.Network.{Network, IsNetwork}
use Rattle.theory.specs.Certificate.{Certificate, Fits, IsValid}
use Rattle.theory.specs.Certificate.Certificate.{optimal, cut, circuit}
use Rattle.theory.specs.Grounded.{Entries, grounded}
use Rattle.theory.specs.Limits.{file_most}
use Rattle.theory.proofs.Certificates.{certificate_says}
use Rattle.theory.proofs.GroundedLaw.{grounded_is_network, length-grounded_arcs}
use Rattle.outside_io.specs.Files.{Files, file_of}
use Rattle.outside_io.specs.Sink.{Grew}
use Rattle.model_text.specs.Model.{IsWellFormed}
use Rattle.model_text.specs.declared.fault.FaultWord.{FaultWord}
use Rattle.model_text.specs.declared.scale.Scale.{Scale}
use Rattle.cert_text.specs.CertificateText.{certificate_text}
use Rattle.ground_net.proofs.Replacing.{replaced_is_network}
use Rattle.warm_solve.specs.ChangesText.{Change, changes_most, Spells, IsFirstFault}
use Rattle.warm_solve.specs.ChangesTextLaws.{IsChangeOf}
use Rattle.warm_solve.proofs.ChangesLaws.{one_list, spelled_or_bad, one_fault, spelled_fits}
use Rattle.mono_top.specs.CountsReadings.{ReadsChangesText, ReadsChangesFile, resolve_bound}
use Rattle.mono_top.specs.NetBound.{net_bound}
use Rattle.mono_top.specs.Headline.{ConcludesResolve}
use Rattle.mono_top.specs.Resolves.{changed, all_changed, state_line, States, Resolves, ResolvesText}
use Rattle.mono_top.specs.Solves.{status_of}
use Rattle.mono_top.specs.declared.status.Status.{Status}
use Rattle.mono_top.specs.declared.status.Status.TheVariants.{ChangesRefused}
use Rattle.mono_top.proofs.HeadlineLemmas.{kind_is}

-- ---- the lines, one after the other

-- what follows the line of a state
abbrev pub Follows : Scale → Entries → ℕ → Network → Certificate → List Change → Status → List ℕ → Type 0
Follows s m count net c [] status rest = (status ≡ status_of c) × (rest ≡ certificate_text s m c)
Follows s m count net c (change ∷ changes) status rest = States s m (count + 1) (changed net change) changes status rest

pub with_line : (s : Scale) (m : Entries) (count : ℕ) (net : Network) (c : Certificate) (changes : List Change) (status : Status) (rest : List ℕ) → IsValid net c
    → Follows s m count net c changes status rest → States s m count net changes status (state_line s count c ++ rest)
with_line s m count net c [] status rest valid (is, last) = (c, valid, is, ap (λ behind. state_line s count c ++ behind) last)
with_line s m count net c (change ∷ changes) status rest valid follows = (c, valid, (rest, refl, follows))

-- ---- what the text needs: a change of a curve changes no count

pub fits_same : (net other : Network) (c : Certificate) → net.nodes ≡ other.nodes → net.arcs ≡ other.arcs → Fits net c → Fits other c
fits_same net other (optimal x u cost value) nodes arcs fits = (
  (rw (← arcs) fits.0.0, record { numbers = rw (← nodes) fits.0.1.numbers; ground = fits.0.1.ground }),
  fits.1,
)
fits_same net other (cut side capacity) nodes arcs fits = (fits.0 ∙ nodes, fits.1)
fits_same net other (circuit x walk span) nodes arcs fits = (
  (rw (← arcs) fits.0.0, record { there = rw (← arcs) fits.0.1.there; short = fits.0.1.short }),
  fits.1,
)

-- ---- the last certificate

pub record IsLast (net : Network) (status : Status) : Type 0 where
  pub certificate : Certificate
  pub valid : IsValid net certificate
  pub kind : status ≡ status_of certificate

pub last_of : (s : Scale) (m : Entries) (count : ℕ) (net : Network) (changes : List Change) (status : Status) (text : List ℕ) → States s m count net changes status text
    → IsLast (all_changed net changes) status
last_of s m count net [] status text (c, valid, kind, is) = record { certificate = c; valid = valid; kind = kind }
last_of s m count net (change ∷ changes) status text (c, valid, (rest, is, states)) = last_of s m (count + 1) (changed net change) changes status rest states

changed_is_network : (m : Entries) (net : Network) (changes : List Change) → IsNetwork net → length net.arcs ≡ length m.nodes + length m.arcs
    → All (IsChangeOf m) changes → IsNetwork (all_changed net changes)
changed_is_network m net [] good count fit = good
changed_is_network m net (change ∷ changes) good count fit =
    let first = fit 0 change (omega arith) in
    changed_is_network m (changed net change) changes (replaced_is_network net change.arc change.curve good (omega (arith, first.there)) first.is_list) count
    (λ k d below. fit (suc k) d (omega arith))

-- ---- the answer to a text

pub resolves_of : (s : Scale) (m : Entries) (bytes : List ℕ) (changes : List Change) (status : Status) (text : List ℕ) → ResolvesText s m bytes status text
    → Spells s m bytes changes → Resolves s m changes status text
resolves_of s m bytes changes status text (inl (line, word, fault, is, said)) spells = absurd (spelled_or_bad s m bytes changes line word spells fault)
resolves_of s m bytes changes status text (inr (others, its, states)) spells =
    subst (λ (cs : List Change). Resolves s m cs status text) (one_list s m bytes others changes its spells) states

pub fault_is_told : (s : Scale) (m : Entries) (bytes : List ℕ) (line : ℕ) (word : FaultWord) (status : Status) (text : List ℕ) → ResolvesText s m bytes status text
    → IsFirstFault s m bytes line word → status ≡ ChangesRefused line word
fault_is_told s m bytes line word status text (inl (at_line, its, fault, is, said)) first =
    let same = one_fault s m bytes at_line line its word fault first in
    let line_is = same.0 in
    let word_is = same.1 in
    cc
fault_is_told s m bytes line word status text (inr (changes, spells, states)) first = absurd (spelled_or_bad s m bytes changes line word spells first)

pub concludes_resolve : (s : Scale) (m : Entries) (bytes : List ℕ) (changes : List Change) (status : Status) (text : List ℕ) (old new : Option (List ℕ)) → IsWellFormed m
    → Spells s m bytes changes → Resolves s m changes status text → Grew old new text → ConcludesResolve s m changes status old new
concludes_resolve s m bytes changes status text old new formed spells resolves grew =
    let net = all_changed (grounded m) changes in
    let good : IsNetwork net = changed_is_network m (grounded m) changes (grounded_is_network m formed.model) (length-grounded_arcs m) (spelled_fits s m bytes changes spells).each in
    let last = last_of s m 0 (grounded m) changes status text resolves in
    let says = certificate_says net last.certificate good last.valid in
    let kind = kind_is net last.certificate status says last.kind in
    record {
      text = text;
      resolves = resolves;
      written = grew;
      certificate = last.certificate;
      valid = last.valid;
      says = says;
      flow_refused = kind.cut_is;
      tension_refused = kind.circuit_is;
    }

-- ---- the readings, said of the file

pub reads_file : (holds : Option Files) (name : List ℕ) (s : Scale) (m : Entries) (bytes : List ℕ) (before now : ℕ)
    → ForSome holds (λ files. file_of files name ≡ Some bytes) → length bytes ≤ file_most → ReadsChangesText s m bytes before now
    → ForSome holds (λ files. ReadsChangesFile files name s m before now)
reads_file holds name s m bytes before now held short reads files told = record {
  bounded = λ changes file.
      let same : file.0 ≡ bytes = let first = held files told in let also = file.1 in cc in
      reads.bounded changes (subst (λ (b : List ℕ). Spells s m b changes) same file.3);
  unread = λ none. reads.unread (λ changes spells. none (bytes, held files told, short, (changes, spells)));
}

pub reads_nothing : (holds : Option Files) (name : List ℕ) (s : Scale) (m : Entries) (before now : ℕ) → now ≡ before
    → ForSome holds (λ files. ReadsChangesFile files name s m before now)
reads_nothing holds name s m before now same files told = record { bounded = λ changes file. omega arith; unread = λ none. same }

-- ---- the changes that are left

pub first_fit : (m : Entries) (changes others : List Change) (change : Change) → changes ≡ change ∷ others → All (IsChangeOf m) changes → IsChangeOf m change
first_fit m changes others change is fit =
    let all = subst (All (IsChangeOf m)) is fit in all 0 change (omega arith)

pub others_fit : (m : Entries) (changes others : List Change) (change : Change) → changes ≡ change ∷ others → All (IsChangeOf m) changes → All (IsChangeOf m) others
others_fit m changes others change is fit =
    let all = subst (All (IsChangeOf m)) is fit in λ k d below. all (suc k) d (omega arith)

-- ---- the readings, said of the text

bound_most : (m : Entries) (count : ℕ) → count ≤ changes_most → resolve_bound count m ≤ resolve_bound changes_most m
bound_most m count few = mul-le-mul_right (net_bound (grounded m)) (omega arith)

pub reads_spelled : (s : Scale) (m : Entries) (bytes : List ℕ) (changes : List Change) (before now : ℕ) → Spells s m bytes changes → before ≤ now
    → now ≤ before + resolve_bound (length changes) m → ReadsChangesText s m bytes before now
reads_spelled s m bytes changes before now spells no_fewer bounded = record {
  no_fewer = no_fewer;
  most = omega (arith, bound_most m (length changes) (spelled_fits s m bytes changes spells).few);
  bounded = λ others its. subst (λ (cs : List Change). now ≤ before + resolve_bound (length cs) m) (one_list s m bytes changes others spells its) bounded;
  unread = λ none. absurd (none changes spells);
}

pub reads_unspelled : (s : Scale) (m : Entries) (bytes : List ℕ) (before now : ℕ) → now ≡ before → ReadsChangesText s m bytes before now
reads_unspelled s m bytes before now same = record {
  no_fewer = omega arith;
  most = omega arith;
  bounded = λ changes its. omega arith;
  unread = λ none. same;
}

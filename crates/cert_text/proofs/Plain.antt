-- Names and printed numbers have neither spaces nor LFs.
use Rattle.std.proofs.Common.{◌≡◌, ℕ, ◌<◌, ◌^◌, true, List, [], ◌∷◌, ◌++◌, refl, ◌∙◌, arith, nat_lt}
use Rattle.std.specs.Prelude.{ℤ}
use Rattle.std.specs.List.{list_all}
use Rattle.std.proofs.lemmas.Bool.{lt-ltb, ltb-true, and_parts, and_from}
use Rattle.std.proofs.lemmas.Bool.Decides.{nat_tests}
use Rattle.std.proofs.lemmas.List.Folds.{list_all-append}
use Rattle.theory.specs.Limits.{IsWithin}
use Rattle.model_text.specs.Names.{IsName, is_name_byte}
use Rattle.model_text.specs.Printed.{printed_fixed}
use Rattle.model_text.proofs.FixedNumbers.{is_plain, all-so, small-by, fixed-plain}
use Rattle.cert_text.specs.Candidate.{IsPlain}

pub plain_append : (a b : List ℕ) → IsPlain a → IsPlain b → IsPlain (a ++ b)
plain_append a b p q = list_all-append (nat_lt 32) a b ∙ and_from _ _ p q

byte_above : (b : ℕ) → is_name_byte b ≡ true → nat_lt 32 b ≡ true
byte_above b is = grind (arith, nat_tests)

bytes_above : (bytes : List ℕ) → list_all is_name_byte bytes ≡ true → IsPlain bytes
bytes_above [] all = refl
bytes_above (b ∷ bs) all =
    let parts = and_parts (is_name_byte b) (list_all is_name_byte bs) all in
    and_from _ _ (byte_above b parts.0) (bytes_above bs parts.1)

pub plain_name : (name : List ℕ) → IsName name → IsPlain name
plain_name name named = bytes_above name (and_parts _ (list_all is_name_byte name) named).1

pub plain_number : (decimals : ℕ) (z : ℤ) (most : ℕ) → IsWithin most z → most < 10 ^ 64 → IsPlain (printed_fixed decimals z)
plain_number decimals z most fits small =
    all-so is_plain (nat_lt 32) (λ b is. grind (arith, nat_tests)) (printed_fixed decimals z) (fixed-plain decimals z (omega (arith, small-by most z fits))).0

-- a plain word has no LF
pub no_feed : (word : List ℕ) → IsPlain word → list_all (nat_lt 10) word ≡ true
no_feed [] plain = refl
no_feed (b ∷ bs) plain =
    let parts = and_parts (nat_lt 32 b) (list_all (nat_lt 32) bs) plain in
    let above : 32 < b = ltb-true 32 b parts.0 in
    and_from _ _ (lt-ltb 10 b (omega arith)) (no_feed bs parts.1)

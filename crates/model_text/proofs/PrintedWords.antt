-- Printed words: their bytes stand between `#` and the end of ASCII, so that no line is cut inside one, and they read back.
use Rattle.std.specs.Prelude.{◌≡◌, ℕ, suc, ◌^◌, ◌<◌, nat_le, ℤ, pos, negsuc, true, false, ◌&&◌, Some, unsigned_abs, List, length, codes, refl}
use Rattle.std.specs.List.{list_all}
use Rattle.std.specs.Option.{option_map}
use Rattle.std.proofs.Common.{arith, ap}
use Rattle.std.proofs.lemmas.Bool.Decides.{nat_tests}
use Rattle.theory.specs.Ends.{whole}
use Rattle.theory.specs.Limits.{number_most, IsWithin}
use Rattle.theory.specs.declared.ext.Ext.{Ext}
use Rattle.theory.specs.declared.ext.Ext.TheVariants.{MinusInf, At, PlusInf}
use Rattle.model_text.specs.ModelText.{is_base_word}
use Rattle.model_text.specs.Names.{is_name, is_name_byte}
use Rattle.model_text.specs.NumberWords.{fixed_of, item_of}
use Rattle.model_text.specs.Printed.{printed_fixed, printed_units, printed_end}
use Rattle.model_text.proofs.FixedNumbers.{is_plain, all-so, small-by, fixed-read, fixed-plain, units-word, other-word}
use Rattle.model_text.proofs.SoundLines.{both}

-- a word that a line keeps whole
pub record IsPlain (word : List ℕ) : Type 0 where
  pub plain : list_all is_plain word ≡ true
  pub some : 0 < length word

pub name-plain : (name : List ℕ) → is_name name ≡ true → IsPlain name
name-plain name is =
    let outer = both (nat_le 1 (length name) && nat_le (length name) 64) (list_all is_name_byte name) is in
    let inner = both (nat_le 1 (length name)) (nat_le (length name) 64) outer.0 in
    record { plain = all-so is_name_byte is_plain (λ b named. grind (arith, nat_tests)) name outer.1; some = grind (arith, nat_tests, inner.0) }

-- ---- numbers

small : (z : ℤ) → IsWithin number_most z → unsigned_abs z < 10 ^ 64
small z within = omega (arith, small-by number_most z within)

pub number-read : (decimals : ℕ) (z : ℤ) → IsWithin number_most z → fixed_of decimals (printed_fixed decimals z) ≡ Some z
number-read decimals z within = fixed-read decimals z (small z within)

pub number-plain : (decimals : ℕ) (z : ℤ) → IsWithin number_most z → IsPlain (printed_fixed decimals z)
number-plain decimals z within = let is = fixed-plain decimals z (small z within) in record { plain = is.0; some = is.1 }

-- ---- items

pub item-read : (decimals : ℕ) (e : Ext) → IsWithin number_most (whole e) → item_of decimals (printed_end decimals e) ≡ Some e
item-read decimals MinusInf within = refl
item-read decimals PlusInf within = refl
item-read decimals (At (pos n)) within =
    let word = printed_units decimals n in
    let is = units-word decimals n (small (pos n) within) in
    rw (other-word decimals n word is 45 (codes "inf") refl, other-word decimals n word is 43 (codes "inf") refl, other-word decimals n word is 105 (codes "nf") refl)
    (ap (option_map (λ z. At z)) (number-read decimals (pos n) within))
item-read decimals (At (negsuc n)) within =
    let word = printed_units decimals (suc n) in
    let is = units-word decimals (suc n) (small (negsuc n) within) in
    rw (other-word decimals (suc n) word is 105 (codes "nf") refl) (ap (option_map (λ z. At z)) (number-read decimals (negsuc n) within))

pub item-plain : (decimals : ℕ) (e : Ext) → IsWithin number_most (whole e) → IsPlain (printed_end decimals e)
item-plain decimals MinusInf within = record { plain = refl; some = omega arith }
item-plain decimals PlusInf within = record { plain = refl; some = omega arith }
item-plain decimals (At z) within = number-plain decimals z within

pub item-no-base : (decimals : ℕ) (e : Ext) → IsWithin number_most (whole e) → is_base_word (printed_end decimals e) ≡ false
item-no-base decimals MinusInf within = refl
item-no-base decimals PlusInf within = refl
item-no-base decimals (At (pos n)) within = other-word decimals n (printed_units decimals n) (units-word decimals n (small (pos n) within)) 98 (codes "ase") refl
item-no-base decimals (At (negsuc n)) within = refl

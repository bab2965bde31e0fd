-- What an answer tells that is none where a test fails.
use Rattle.std.specs.Prelude.{◌≡◌, Bool, true, false, if◌then◌else◌, Option, None, Some, refl}

pub told : {X : Type 0} (test : Bool) (x y : X) → (if test then None else Some x) ≡ Some y → (test ≡ false) × (x ≡ y)
told true x y is = cc
told false x y is = (refl, cc)

pub failed : {X : Type 0} (test : Bool) (x : X) → ◌≡◌ {A = Option X} (if test then None else Some x) None → test ≡ true
failed true x is = refl
failed false x is = cc

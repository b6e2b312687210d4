-- What a stack of texts is after a call, newest text first.
use Rattle.std.specs.Prelude.{◌≡◌, ℕ, List, [], ◌∷◌, drop, slice_index_or, Option, Some, None, Result, Ok, Err}
use Rattle.pli_text.specs.declared.fault.TextFault.{TextFault}
use Rattle.pli_text.specs.declared.fault.TextFault.TheVariants.{NotNumber, Memory}

abbrev pub top_of : List (List ℕ) → List ℕ
top_of texts = slice_index_or texts 0 []

-- the operands of two: the right one is above the left one
abbrev pub right_of : List (List ℕ) → List ℕ
right_of texts = slice_index_or texts 0 []

abbrev pub left_of : List (List ℕ) → List ℕ
left_of texts = slice_index_or texts 1 []

-- these texts, or without memory nothing has changed
abbrev pub IsOrStays : (texts old : List (List ℕ)) → Result (Unit {0}) TextFault → (new : List (List ℕ)) → Type 0
IsOrStays texts old (Ok done) new = new ≡ texts
IsOrStays texts old (Err fault) new = (fault ≡ Memory) × (new ≡ old)

-- the operands become a text where there is one, else nothing has changed and the fault is told
abbrev pub Becomes : Option (List ℕ) → (operands : ℕ) → TextFault → (old : List (List ℕ)) → Result (Unit {0}) TextFault → (new : List (List ℕ)) → Type 0
Becomes (Some t) operands fault old result new = (result ≡ Ok tt) × (new ≡ t ∷ drop operands old)
Becomes None operands fault old result new = (result ≡ Err fault) × (new ≡ old)

-- the top text is dropped where it gives a value, else nothing has changed
abbrev pub Gives : {V : Type 0} → Option V → (old : List (List ℕ)) → Result V TextFault → (new : List (List ℕ)) → Type 0
Gives (Some v) old result new = (result ≡ Ok v) × (new ≡ drop 1 old)
Gives None old result new = (result ≡ Err NotNumber) × (new ≡ old)

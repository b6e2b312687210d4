-- Jumps over code that isn't written yet: what the whole comes to once it is.
use Rattle.std.specs.Prelude.{◌≡◌, ℕ, ◌+◌, ◌-◌, [], ◌∷◌, ◌++◌, Option, Some, None}
use Rattle.pli_coding.specs.Assembly.{JumpAhead, JumpBack, Code, size_of}
use Rattle.rv_assembly.specs.declared.place.Place.{Place}
use Rattle.rv_assembly.specs.Places.{IsPlace, words_behind, patched, jumped_over}

-- whatever is written behind the code, its place is still one of a jump; and with the jump's words put there, the code becomes the
-- one that they give
pub record ComesTo (code : Code) (p : Place) (with_jump : ℕ → Code) : Type 0 where
  pub kept : (inner : Code) → IsPlace 2 (code ++ inner) p
  pub behind : (inner : Code) → words_behind (code ++ inner) p ≡ size_of inner
  pub filled : (inner : Code) (n : ℕ) → patched (code ++ inner) p (JumpAhead n) ≡ with_jump n ++ inner

-- without a place there is no jump
abbrev pub ComesToIf : Code → Option Place → (with_jump : ℕ → Code) → Type 0
ComesToIf code None with_jump = (n : ℕ) → code ≡ with_jump n
ComesToIf code (Some p) with_jump = ComesTo code p with_jump

abbrev pub IsJumpIf : Code → Option Place → Type 0
IsJumpIf code None = Unit {0}
IsJumpIf code (Some p) = IsPlace 2 code p

-- past all that stands behind the place
abbrev pub jumped_if : Code → Option Place → Code
jumped_if code None = code
jumped_if code (Some p) = jumped_over code p

-- past all of that and two words more
unfoldable pub jumped_past : Code → Place → Code
jumped_past code p = patched code p (JumpAhead (words_behind code p + 2))

-- back to where so many words stood
unfoldable pub turned_back : Code → (start : ℕ) → Code
turned_back code start = code ++ JumpBack (size_of code - start) ∷ []

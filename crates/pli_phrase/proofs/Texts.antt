-- Texts, byte by byte.
use Rattle.std.proofs.Common.{◌≡◌, ℕ, List, [], ◌∷◌, ◌++◌, Option, Some, None, refl, sym, ap}
use Rattle.std.proofs.lemmas.List.{append_assoc}
use Rattle.pli_phrase.specs.Tokens.{before}

-- bytes before a text
abbrev pub text_with : List ℕ → Option (List ℕ) → Option (List ℕ)
text_with v None = None
text_with v (Some w) = Some (v ++ w)

-- a byte at the end of those before is one at the front of the text
pub text_snoc : (v : List ℕ) (b : ℕ) (w : Option (List ℕ)) → text_with v (before b w) ≡ text_with (v ++ b ∷ []) w
text_snoc v b None = refl
text_snoc v b (Some w) = ap Some (sym (append_assoc v (b ∷ []) w))

pub text_none : (w : Option (List ℕ)) → text_with [] w ≡ w
text_none None = refl
text_none (Some w) = refl

-- Bytes that are put behind others.
use Rattle.std.proofs.Common.{◌≡◌, ℕ, ◌+◌, ◌-◌, List, ◌++◌, length, take, replicate, ap, ◌∙◌, append_assoc, arith}
use Rattle.std.proofs.lemmas.List.{take_all}

-- a list that grew by n times v
pub grown : (s t : List ℕ) (size len n v : ℕ) → t ≡ take size s ++ replicate (size - len) v → len ≡ length s → size ≡ len + n → t ≡ s ++ replicate n v
grown s t size len n v h e f =
    let more : size - len ≡ n = omega arith in
    h ∙ ap (λ k. take size s ++ replicate k v) more ∙ ap (λ l. l ++ replicate n v) (take_all size s (omega arith))

pub three-behind : (s a t b u v w : List ℕ) → u ≡ s ++ a → v ≡ u ++ t → w ≡ v ++ b → w ≡ s ++ (a ++ (t ++ b))
three-behind s a t b u v w e f g =
    g ∙ ap (λ l. l ++ b) (f ∙ ap (λ l. l ++ t) e) ∙ (append_assoc (s ++ a) t b ∙ append_assoc s a (t ++ b))

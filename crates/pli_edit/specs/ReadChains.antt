-- Reads that are made one behind another, and the inputs that agree with them.
use Rattle.std.proofs.Common.{◌≡◌, ℕ, Bool, true, List, [], ◌∷◌, ◌++◌, length, drop, refl}
use Rattle.std.proofs.Common.{sym, ap, subst, ◌∙◌, append_assoc}
use Rattle.std.proofs.lemmas.List.{append-nil, drop_at}
use Rattle.pli_edit.specs.Feeding.{Fed, Reading, Gave, Broke, NotMade, bytes_of, behind, Reads, gained}
use Rattle.pli_edit.specs.Feeding.{to_come, Agrees}
use Rattle.pli_edit.specs.declared.feed.Standing.{Standing}
use Rattle.pli_edit.specs.declared.feed.Standing.TheVariants as S

abbrev IsNotEnded : Standing → Type 0
IsNotEnded S.Open = Unit {0}
IsNotEnded S.Ended = ⊥
IsNotEnded S.Broken = Unit {0}
IsNotEnded S.Spent = Unit {0}

open_is_not_ended : (s : Standing) → s ≡ S.Open → s ≡ S.Ended → ⊥
open_is_not_ended s h k = subst IsNotEnded k (subst IsNotEnded (sym h) tt)

-- ---- inputs that agree

one_read : (r : Reading) (a : Fed) (all : List ℕ) → a.standing ≡ S.Open → Agrees (behind r a) all → Agrees a all ×
    (to_come a all ≡ bytes_of r ++ to_come (behind r a) all)
one_read (Gave bytes) a all opened g =
    let h = a.history.bytes in
    let tail = drop (length (h ++ bytes)) all in
    let whole : all ≡ h ++ (bytes ++ tail) = g.0 ∙ append_assoc h bytes tail in
    let rest : drop (length h) all ≡ bytes ++ tail =
    ap (drop (length h)) whole ∙ drop_at h (bytes ++ tail) (length h) refl in
    ((whole ∙ ap (λ t. h ++ t) (sym rest), λ ended. absurd (open_is_not_ended a.standing opened ended)), rest)
one_read Broke a all opened g = ((g.0, λ ended. absurd (open_is_not_ended a.standing opened ended)), refl)
one_read NotMade a all opened g = ((g.0, λ ended. absurd (open_is_not_ended a.standing opened ended)), refl)

-- an input that agrees with what was read by the end agreed before; these reads gave what came between
pub agree_back : (w : List ℕ → Bool) (p : List ℕ) (rs : List Reading) (a b : Fed) (all : List ℕ) → Reads w p rs a b →
    Agrees b all → Agrees a all × (to_come a all ≡ gained rs ++ to_come b all)
agree_back w p [] a b all h g = (subst (λ f. Agrees f all) h g, ap (λ f. to_come f all) (sym h))
agree_back w p (r ∷ rs) a b all h g =
    let rest = agree_back w (p ++ bytes_of r) rs (behind r a) b all h.3 g in
    let one = one_read r a all h.1 rest.0 in
    (one.0, one.1 ∙ (ap (λ t. bytes_of r ++ t) rest.1 ∙ sym (append_assoc (bytes_of r) (gained rs) (to_come b all))))

-- what was read and nothing behind it agrees
pub nothing_to_come : (f : Fed) → to_come f (f.history.bytes ++ []) ≡ []
nothing_to_come f = drop_at f.history.bytes [] (length f.history.bytes) refl

pub agrees_now : (f : Fed) → Agrees f (f.history.bytes ++ [])
agrees_now f = (ap (λ t. f.history.bytes ++ t) (sym (nothing_to_come f)), λ _. nothing_to_come f)

-- ---- chains of reads

pub reads_append : (w : List ℕ → Bool) (p : List ℕ) (rs ss : List Reading) (a b c : Fed) → Reads w p rs a b →
    Reads w (p ++ gained rs) ss b c → Reads w p (rs ++ ss) a c
reads_append w p [] ss a b c h k = subst (λ f. Reads w p ss f c) h (subst (λ q. Reads w q ss b c) (append-nil p) k)
reads_append w p (r ∷ rs) ss a b c h k = (
  h.0,
  h.1,
  h.2,
  reads_append w (p ++ bytes_of r) rs ss (behind r a) b c h.3
      (subst (λ q. Reads w q ss b c) (sym (append_assoc p (bytes_of r) (gained rs))) k),
)

pub gained_append : (rs ss : List Reading) → gained (rs ++ ss) ≡ gained rs ++ gained ss
gained_append [] ss = refl
gained_append (r ∷ rs) ss =
    ap (λ t. bytes_of r ++ t) (gained_append rs ss) ∙ sym (append_assoc (bytes_of r) (gained rs) (gained ss))

-- what is wanted here is wanted there, while the stream is opened
pub reads_shift : (v w : List ℕ → Bool) (q p : List ℕ) (rs : List Reading) (a b : Fed) →
    (a.standing ≡ S.Open → (more : List ℕ) → v (q ++ more) ≡ true → w (p ++ more) ≡ true) → Reads v q rs a b →
    Reads w p rs a b
reads_shift v w q p [] a b e h = h
reads_shift v w q p (r ∷ rs) a b e h = (
  subst (λ l. w l ≡ true) (append-nil p) (e h.1 [] (subst (λ l. v l ≡ true) (sym (append-nil q)) h.0)),
  h.1,
  h.2,
  reads_shift v w (q ++ bytes_of r) (p ++ bytes_of r) rs (behind r a) b
      (λ _ more t.
      subst (λ l. w l ≡ true) (sym (append_assoc p (bytes_of r) more))
      (e h.1 (bytes_of r ++ more) (subst (λ l. v l ≡ true) (append_assoc q (bytes_of r) more) t))) h.3,
)

pub reads_weaken : (v w : List ℕ → Bool) (p : List ℕ) (rs : List Reading) (a b : Fed) →
    ((q : List ℕ) → v q ≡ true → w q ≡ true) → Reads v p rs a b → Reads w p rs a b
reads_weaken v w p rs a b e h = reads_shift v w p p rs a b (λ _ more t. e (p ++ more) t) h

pub reads_open : (w : List ℕ → Bool) (p : List ℕ) (rs : List Reading) (a b : Fed) → Reads w p rs a b →
    b.standing ≡ S.Open → a.standing ≡ S.Open
reads_open w p [] a b h opened = subst (λ f. f.standing ≡ S.Open) h opened
reads_open w p (r ∷ rs) a b h opened = h.1

-- The first mark of bytes that go on.
use Rattle.std.proofs.Common.{◌≡◌, ◌≢◌, ℕ, ◌<◌, true, false, ◌==◌, List, [], ◌∷◌, length}
use Rattle.std.proofs.Common.{get_or, Some, None, refl, arith}
use Rattle.std.proofs.lemmas.Bool.{false_from_ne_true, eqb-true}
use Rattle.pli_edit.specs.Streams.{IsKnownMark}
use Rattle.pli_edit.specs.declared.mark.Mark.TheVariants as M

no_byte : (x y : ℕ) → x ≢ y → (x == y) ≡ false
no_byte x y h = false_from_ne_true (x == y) (λ e. h (eqb-true x y e))

pub wanted_first : (s : List ℕ) → length s ≡ 0 → IsKnownMark s None
wanted_first [] h = (refl, omega arith)
wanted_first (x ∷ xs) h = absurd (omega arith)

pub wanted_second : (s : List ℕ) → length s ≡ 1 → get_or s 0 0 ≡ 13 → IsKnownMark s None
wanted_second [] h e = absurd (omega arith)
wanted_second (x ∷ []) h e = (rw e refl, omega arith)
wanted_second (x ∷ y ∷ ys) h e = absurd (omega arith)

pub known_feed : (s : List ℕ) → 0 < length s → get_or s 0 0 ≡ 10 → IsKnownMark s (Some (M.LineEnd, 1))
known_feed [] h e = absurd (omega arith)
known_feed (x ∷ xs) h e =
    (omega arith, omega arith, λ more. rw e refl, λ t more. elim t [ true ↦ rw e refl | false ↦ rw e refl ])

pub known_character : (s : List ℕ) → 0 < length s → get_or s 0 0 ≢ 10 → get_or s 0 0 ≢ 13 →
    IsKnownMark s (Some (M.Character (get_or s 0 0), 1))
known_character [] h e f = absurd (omega arith)
known_character (x ∷ xs) h e f = (
  omega arith,
  omega arith,
  λ more. rw (no_byte x 10 e, no_byte x 13 f) refl,
  λ t more. elim t [
    | true ↦ rw (no_byte x 10 e, no_byte x 13 f) refl
    | false ↦ rw (no_byte x 10 e, no_byte x 13 f)
        refl
  ],
)

pub known_return_feed : (s : List ℕ) → 1 < length s → get_or s 0 0 ≡ 13 → get_or s 1 0 ≡ 10 →
    IsKnownMark s (Some (M.LineEnd, 2))
known_return_feed [] h e f = absurd (omega arith)
known_return_feed (x ∷ []) h e f = absurd (omega arith)
known_return_feed (x ∷ y ∷ ys) h e f = (
  omega arith,
  omega arith,
  λ more. rw (e, f) refl,
  λ t more. elim t [ true ↦ rw (e, f) refl | false ↦ rw (e, f) refl ],
)

pub known_return : (s : List ℕ) → 1 < length s → get_or s 0 0 ≡ 13 → get_or s 1 0 ≢ 10 →
    IsKnownMark s (Some (M.Character (get_or s 0 0), 1))
known_return [] h e f = absurd (omega arith)
known_return (x ∷ []) h e f = absurd (omega arith)
known_return (x ∷ y ∷ ys) h e f = (
  omega arith,
  omega arith,
  λ more. rw (e, no_byte y 10 f) refl,
  λ t more. elim t [ true ↦ rw (e, no_byte y 10 f) refl | false ↦ rw (e, no_byte y 10 f) refl ],
)

pub ruleset known_marks = (wanted_first, wanted_second, known_feed, known_character, known_return_feed, known_return)

-- The code of frames, register by register and level by level.
use Rattle.std.proofs.Common.{◌≡◌, ◌<◌, ◌≤◌, ℕ, zero, suc, ◌+◌, ◌-◌, [], ◌∷◌, Option, ◌++◌, refl, sym, ap, ◌∙◌}
use Rattle.std.proofs.Common.{append_assoc, append-nil, add-one, arith}
use Rattle.rv_meaning.specs.declared.instr.Register.{Register}
use Rattle.pli_coding.specs.Registers.{frame_register, held, a0, u1}
use Rattle.pli_coding.specs.Assembly.{Code}
use Rattle.pli_coding.specs.Instructions.{load_word, store_word}
use Rattle.pli_coding.specs.Frames.{display, saved_register}
use Rattle.pli_coding.specs.Entries.{display_copied, display_made, frame_begun, registers_restored, registers_saved, saved_if}
use Rattle.rv_entry.proofs.Steps.{nothing, one_less, step}
use Rattle.rv_entry.specs.Pieces.{display_ended, display_kept, display_read, display_written, frame_linked, frame_measured, frame_placed, register_restored, register_saved, stack_raised}

-- ---- registers

saved_from : (r : Register) (n count : ℕ) → n < count → registers_saved r n (count - n) ≡ register_saved r n
    ++ registers_saved r (n + 1) (count - (n + 1))
unfolding register_saved
saved_from r n count h =
    ap (registers_saved r n) (one_less n count h)
    ∙ ap (λ m. store_word r (held n) (saved_register n) ++ registers_saved r m (count - (n + 1))) (sym (add-one n))

pub next_saved : (r : Register) (n count : ℕ) (code after target : Code) → n < count
    → after ≡ code ++ register_saved r n → code ++ registers_saved r n (count - n) ≡ target
    → after ++ registers_saved r (n + 1) (count - (n + 1)) ≡ target
next_saved r n count code after target h a is =
    step code after (register_saved r n) (registers_saved r (n + 1) (count - (n + 1)))
    (registers_saved r n (count - n)) target a (saved_from r n count h) is

pub all_are_saved : (r : Register) (n count : ℕ) (code target : Code) → count ≤ n
    → code ++ registers_saved r n (count - n) ≡ target → code ≡ target
all_are_saved r n count code target h is = sym (append-nil code)
    ∙ ap (λ m. code ++ registers_saved r n m) (sym (nothing n count h)) ∙ is

restored_from : (n count : ℕ) → n < count → registers_restored n (count - n) ≡ register_restored n
    ++ registers_restored (n + 1) (count - (n + 1))
unfolding register_restored
restored_from n count h =
    ap (registers_restored n) (one_less n count h)
    ∙ ap (λ m. load_word (held n) frame_register (saved_register n) ++ registers_restored m (count - (n + 1)))
    (sym (add-one n))

pub next_restored : (n count : ℕ) (code after target : Code) → n < count → after ≡ code ++ register_restored n
    → code ++ registers_restored n (count - n) ≡ target → after ++ registers_restored (n + 1) (count - (n + 1)) ≡ target
next_restored n count code after target h a is =
    step code after (register_restored n) (registers_restored (n + 1) (count - (n + 1)))
    (registers_restored n (count - n)) target a (restored_from n count h) is

pub all_are_restored : (n count : ℕ) (code target : Code) → count ≤ n → code ++ registers_restored n (count - n)
    ≡ target → code ≡ target
all_are_restored n count code target h is = sym (append-nil code)
    ∙ ap (λ m. code ++ registers_restored n m) (sym (nothing n count h)) ∙ is

-- ---- the display

displayed_from : (n outer : ℕ) → n < outer → display_copied n (outer - n) ≡ display_kept n ++ display_copied (n + 1) (outer - (n + 1))
unfolding display_kept display_read display_written
displayed_from n outer h =
    let rest : ℕ = outer - (n + 1) in
    ap (display_copied n) (one_less n outer h)
    ∙ ap (λ m. load_word u1 a0 (display n) ++ (store_word frame_register u1 (display n) ++ display_copied m rest)) (sym (add-one n))
    ∙ sym (append_assoc (load_word u1 a0 (display n)) (store_word frame_register u1 (display n)) (display_copied (n + 1) rest))

pub next_displayed : (n outer : ℕ) (code after target : Code) → n < outer → after ≡ code ++ display_kept n → code ++ display_copied n (outer - n) ≡ target → after ++ display_copied (n + 1) (outer - (n + 1)) ≡ target
next_displayed n outer code after target h a is = step code after (display_kept n) (display_copied (n + 1) (outer - (n + 1))) (display_copied n (outer - n)) target a (displayed_from n outer h) is

same_level : (n outer : ℕ) → n ≤ outer → outer ≤ n → outer ≡ n
same_level n outer h k = omega arith

pub outer_displayed : (n outer : ℕ) (code after target : Code) → n ≤ outer → outer ≤ n → after ≡ code ++ display_ended outer → code ++ display_copied n (outer - n) ≡ target → after ≡ target
unfolding display_ended display_written
outer_displayed n outer code after target h k a is =
    a
    ∙ ap (λ m. code ++ store_word frame_register a0 (display m)) (same_level n outer h k)
    ∙ ap (λ m. code ++ display_copied n m) (sym (nothing n outer k))
    ∙ is

pub some_level : (level : ℕ) → 0 < level → display_copied 0 (level - 1) ≡ display_made level
some_level zero h = absurd (omega arith)
some_level (suc outer) h = ap (display_copied 0) (omega arith)

-- ---- frames

pub begun-is : (words level parameters : ℕ) (saved : Option ℕ)
    → frame_begun words level parameters saved
    ≡ frame_placed words
    ++ (saved_if saved
    ++ (frame_linked ++ (display_made level ++ (frame_measured ++ stack_raised level parameters))))
unfolding frame_placed frame_linked frame_measured stack_raised
begun-is words level parameters saved = refl

pub ruleset frames = (begun-is, append_assoc, append-nil)

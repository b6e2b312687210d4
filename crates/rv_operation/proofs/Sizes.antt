-- Code that a branch goes over is short.
use Rattle.std.proofs.Common.{◌≡◌, ◌<◌, ◌≤◌, ℕ, suc, ◌+◌, ℤ, Bool, true, false, [], ◌∷◌, ◌++◌, arith}
use Rattle.std.specs.Prelude.{if◌then◌else◌}
use Rattle.rv_meaning.specs.declared.instr.Instr.{Instr}
use Rattle.rv_meaning.specs.declared.instr.Register.{Register}
use Rattle.rv_meaning.specs.declared.instr.Instr.TheVariants as I
use Rattle.rv_meaning.specs.declared.instr.LoadKind.TheVariants as Load
use Rattle.rv_meaning.specs.declared.instr.StoreKind.TheVariants as Store
use Rattle.pli_language.specs.declared.condition.Condition.TheVariants as C
use Rattle.pli_meaning.specs.Codes.{fixed_overflow_code}
use Rattle.rv_meaning.specs.Words.{word}
use Rattle.pli_coding.specs.Registers.{frame_register, far_register, held, a0}
use Rattle.pli_coding.specs.Assembly.{Plain, Code, size_of}
use Rattle.pli_coding.specs.Linking.{upper_part, lower_part}
use Rattle.pli_coding.specs.Instructions.{displaced, is_immediate, move, add, load_word, store_word}
use Rattle.pli_coding.specs.Frames.{words_place}
use Rattle.pli_coding.specs.Environments.{Taken, is_register_left, save, fetch}
use Rattle.pli_coding.specs.Arithmetic.{raised, overflow_raised}
use Rattle.rv_assembly.proofs.Growing.{size_append}

either : (b : Bool) (x y : Code) (n : ℕ) → size_of x ≤ n → size_of y ≤ n → size_of (if b then x else y) ≤ n
either true x y n h k = h
either false x y n h k = k

displaced_short : (i : Register → ℤ → Instr) (r : Register) (z : ℤ) → size_of (displaced i r z) ≤ 3
displaced_short i r z =
    either (is_immediate z) (Plain (i r z) ∷ [])
    (Plain (I.LoadUpper far_register (upper_part (word z))) ∷ add far_register far_register r ∷ Plain (i far_register (lower_part (word z))) ∷ []) 3 (omega arith) (omega arith)

save_short : (r : Register) (t : Taken) → size_of (save r t) ≤ 3
save_short r t =
    either (is_register_left t) (move (held t.registers) r ∷ []) (store_word frame_register r (words_place t.words 1)) 3 (omega arith) (displaced_short (λ s d. I.Store Store.Word s r d) frame_register (words_place t.words 1))

fetch_short : (r : Register) (t : Taken) → size_of (fetch r t) ≤ 3
fetch_short r t =
    either (is_register_left t) (move r (held t.registers) ∷ []) (load_word r frame_register (words_place t.words 1)) 3 (omega arith) (displaced_short (λ s d. I.Load Load.Word r s d) frame_register (words_place t.words 1))

pub short : (t : Taken) → size_of (overflow_raised t) < 1023
short t =
    let a : size_of (overflow_raised t) ≡ size_of (save a0 t) + size_of (raised C.FixedOverflow fixed_overflow_code ++ fetch a0 t) = size_append (save a0 t) (raised C.FixedOverflow fixed_overflow_code ++ fetch a0 t) in
    let s = save_short a0 t in
    let f = fetch_short a0 t in
    omega arith

pub short_behind_move : (t : Taken) → suc (size_of (overflow_raised t)) < 1023
short_behind_move t =
    let a : size_of (overflow_raised t) ≡ size_of (save a0 t) + size_of (raised C.FixedOverflow fixed_overflow_code ++ fetch a0 t) = size_append (save a0 t) (raised C.FixedOverflow fixed_overflow_code ++ fetch a0 t) in
    let s = save_short a0 t in
    let f = fetch_short a0 t in
    omega arith

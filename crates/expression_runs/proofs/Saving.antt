-- A value waits in a register that the block saves, and comes back.
use Rattle.std.proofs.Common.{◌≡◌, ℕ, ◌+◌, ◌*◌, ◌^◌, ◌<◌, ◌≤◌, List, ◌++◌, Bool, true, false, refl, sym, ap, ◌∙◌}
use Rattle.std.proofs.Common.{subst, arith}
use Rattle.std.proofs.lemmas.Bool.{lt-ltb}
use Rattle.std.proofs.lemmas.Bool.Decides.{nat_tests}
use Rattle.std.specs.Prelude.{cond, ◌==◌}
use Rattle.rv_meaning.specs.declared.instr.Register.{Register}
use Rattle.pli_coding.specs.Assembly.{Code, size_of}
use Rattle.pli_coding.specs.Environments.{Taken, fetch, is_register_left, save, with_number, with_words}
use Rattle.pli_coding.specs.Registers.{a0, held_registers, u1}
use Rattle.activation_relation.specs.Layers.{Point, services_of}
use Rattle.run_steps.specs.Bodies.{Free, Ground, Known, with'}
use Rattle.run_steps.specs.Engine.{Base}
use Rattle.run_steps.specs.Items.{At, Linked}
use Rattle.run_steps.proofs.Linking.{size_append}
use Rattle.run_steps.specs.Reach.{Family, Reach}
use Rattle.run_steps.proofs.Reach.{reach_map}
use Rattle.run_steps.specs.Temporaries.{Temporaries, nothing, put}
use Rattle.run_steps.proofs.Temporaries.{fetch_piece, put_other, put_same, save_piece}
use Rattle.block_runs.proofs.PointGrounds.{point_ground}
use Rattle.program_runs.specs.Statements.{Block, IsAmong}
use Rattle.expression_runs.specs.Values.{HasRegisters, Setting, in_registers}
use Rattle.expression_runs.proofs.Words.{frame_of, valued}

pub size_sum : (a b c : Code) → size_of (a ++ (b ++ c)) ≡ size_of a + (size_of b + size_of c)
size_sum a b c =
    let m = size_append a (b ++ c) in
    let n = size_append b c in
    omega (arith, m, n)

-- no temporary waits in a word of the frame
pub no_words : (k : Block) (p : Point) (h : frame_of k p) → Temporaries (point_ground k.call.surroundings p h)
no_words k p h =
    record {
      kept = λ t b m j x less bytes few o. absurd (omega (arith, less));
      found = λ t b m j less few o. absurd (omega (arith, less));
    }

-- ---- registers

pub register_left : (k : Setting) (taken need : ℕ) → HasRegisters k taken need → 1 ≤ need →
    is_register_left (in_registers k.words taken) ≡ true
register_left k taken need h some =
    let a = h.0 in
    let b = h.1 in
    lt-ltb taken held_registers (omega (arith, a, b, some))

pub next_taken : (words taken : ℕ) → is_register_left (in_registers words taken) ≡ true →
    with_number (in_registers words taken) ≡ in_registers words (taken + 1)
next_taken words taken left =
    ap (λ q. cond q (record (in_registers words taken) { registers = taken + 1 })
    (with_words 1 (in_registers words taken))) left

abbrev pub held_after : (numbers : ℕ → ℕ) → (taken given : ℕ) → ℕ → ℕ
held_after numbers taken given = put numbers taken given

put_above : (numbers : ℕ → ℕ) (taken given n : ℕ) → taken < n → put numbers taken given n ≡ numbers n
put_above numbers taken given n less =
    let e : (n == taken) ≡ false = grind (arith, nat_tests) in
    ap (λ q. cond q given (numbers n)) e

put_word : (numbers : ℕ → ℕ) (taken given n : ℕ) → given < 2 ^ 32 → numbers n < 2 ^ 32 →
    put numbers taken given n < 2 ^ 32
put_word numbers taken given n small' few = by (n == taken)
  where
    by : (q : Bool) → cond q given (numbers n) < 2 ^ 32
    by true = small'
    by false = few

-- a register that the block saves may hold anything
pub held_among :
    (k : Setting) {numbers : ℕ → ℕ} {p : Point} (taken need given : ℕ) → HasRegisters k taken need → 1 ≤ need →
    given < 2 ^ 32 → IsAmong k.block numbers p → IsAmong k.block (held_after numbers taken given) p
held_among k {numbers} taken need given registers some small' o =
    let room = registers.0 in
    record {
      stands = o.stands;
      image = o.image;
      later = o.later;
      few = o.few;
      entries = o.entries;
      others = λ n more. put_above numbers taken given n (omega (arith, room, more, some)) ∙ o.others n more;
      words = λ n. put_word numbers taken given n small' (o.words n);
    }

pub held_stays : (numbers : ℕ → ℕ) (taken given n : ℕ) → n < taken → held_after numbers taken given n ≡ numbers n
held_stays numbers taken given n less = put_other numbers taken given n less

pub held_is_given : (numbers : ℕ → ℕ) (taken given : ℕ) → held_after numbers taken given taken ≡ given
held_is_given numbers taken given = put_same numbers taken given

-- ---- the code

pub saved_reach :
    (k : Setting) (taken need : ℕ) {p : Point} {numbers : ℕ → ℕ} {index : ℕ} (h : frame_of k.block p) →
    HasRegisters k taken (need + 1) → (c : ℕ) (f : Family) (given : ℕ) → given < 2 ^ 32 →
    Linked k.block.call.surroundings.links k.block.call.code index (save a0 (in_registers k.words taken)) →
    ((b : Base) → At b index (Known (point_ground k.block.call.surroundings p h) (services_of p) numbers (λ j. 0)
    (valued given) b) (f b)) →
    Reach k.block.call.code c f (services_of p) (c + size_of (save a0 (in_registers k.words taken))) (services_of p)
    (λ b y. At b (index + size_of (save a0 (in_registers k.words taken)))
    (Known (point_ground k.block.call.surroundings p h) (services_of p) (held_after numbers taken given) (λ j. 0)
    nothing b) y)
saved_reach k taken need {p} {numbers} {index} h registers c f given small' l at =
    let t = in_registers k.words taken in
    let left = register_left k taken (need + 1) registers (omega arith) in
    let w = k.block.call.surroundings in
    let g = point_ground w p h in
    let end = index + size_of (save a0 t) in
    subst (λ q. Reach k.block.call.code c f (services_of p) (c + size_of (save a0 t)) (services_of p)
    (λ b y. At b end (Known g (services_of p) (cond q (put numbers taken given) numbers)
    (cond q (λ j. 0) (put (λ j. 0) k.words given)) nothing b) y)) left
    (save_piece (no_words k.block p h) c f a0 t given (λ none. absurd (cc (sym left ∙ none))) small' (λ y u. refl)
    (λ b w' o. o.regs.0)
    (record { reserved_stay = λ y u. refl; known_stay = λ b y u q. q; set = λ y u. refl }) l at)

-- it comes into a register
pub fetched_reach :
    (k : Setting) (taken need : ℕ) {p : Point} {numbers : ℕ → ℕ} {index : ℕ} {rs : Base → List (ℕ × ℕ)}
    (h : frame_of k.block p) → HasRegisters k taken (need + 1) → (c : ℕ) (f : Family) (r : Register) (given : ℕ) →
    given < 2 ^ 32 → numbers taken ≡ given → Free rs r.index → Free rs 31 →
    Linked k.block.call.surroundings.links k.block.call.code index (fetch r (in_registers k.words taken)) →
    ((b : Base) → At b index (Known (point_ground k.block.call.surroundings p h) (services_of p) numbers (λ j. 0) rs b)
    (f b)) →
    Reach k.block.call.code c f (services_of p) (c + size_of (fetch r (in_registers k.words taken))) (services_of p)
    (λ b y. At b (index + size_of (fetch r (in_registers k.words taken)))
    (Known (point_ground k.block.call.surroundings p h) (services_of p) numbers (λ j. 0)
    (with' r.index (λ b'. given) rs) b) y)
fetched_reach k taken need {p} {numbers} h registers c f r given small' waits free far l at =
    let t = in_registers k.words taken in
    let left = register_left k taken (need + 1) registers (omega arith) in
    fetch_piece (no_words k.block p h) c f r t given (λ none. absurd (cc (sym left ∙ none))) small'
    (ap (λ q. cond q (numbers taken) 0) left ∙ waits) free far l at

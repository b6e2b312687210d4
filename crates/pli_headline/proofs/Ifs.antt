-- IF, with and without ELSE.
use Rattle.std.proofs.Common.{◌≡◌, ℕ, ◌+◌, ◌^◌, ◌<◌, ◌≤◌, List, [], ◌∷◌, ◌++◌, Bool, true, false, refl, sym, ap, ◌∙◌, subst, arith}
use Rattle.std.specs.Prelude.{◌==◌, if◌then◌else◌}
use Rattle.rv_meaning.specs.declared.instr.Instr.{Instr}
use Rattle.rv_meaning.specs.declared.instr.BranchTest.TheVariants as Test
use Rattle.rv_meaning.specs.Words.{flag}
use Rattle.pli_typing.specs.TypedTree as Y
use Rattle.pli_meaning.specs.World.{counted}
use Rattle.pli_meaning.specs.StorageState.{State, with_world}
use Rattle.pli_meaning.specs.Control.{Meaning, act, give, choose, ◌>>=◌, ◌>>◌}
use Rattle.pli_meaning.specs.Raising.{Around, at_line}
use Rattle.pli_meaning.specs.Evaluating as V
use Rattle.pli_meaning.specs.Executing as M
use Rattle.pli_serving.specs.ServiceState.{Services}
use Rattle.pli_coding.specs.Registers.{zero_register, a0}
use Rattle.pli_coding.specs.Assembly.{JumpAhead, Code, size_of}
use Rattle.pli_coding.specs.Instructions.{skip_where}
use Rattle.pli_coding.specs.Allocating.{act_code}
use Rattle.pli_coding.specs.Environments.{Environment}
use Rattle.pli_coding.specs.Expressions.{bit_code}
use Rattle.pli_coding.specs.Statements.{if_met, stmt_code}
use Rattle.pli_coding.specs.Linking.{Links}
use Rattle.temporary_bounds.specs.WordBounds.{bit_words}
use Rattle.temporary_bounds.specs.Spare.{spare}
use Rattle.pli_headline.specs.ProvedSoFar.{Names, Types, IsProvedBit}
use Rattle.pli_headline.proofs.Storages.{storage}
use Rattle.run_steps.specs.Engine.{Base, address}
use Rattle.run_steps.proofs.Linking.{size_append}
use Rattle.run_steps.specs.Items.{Linked, At}
use Rattle.run_steps.specs.Bodies.{Ground, Known, Free}
use Rattle.run_steps.proofs.Bodies.{zero_is}
use Rattle.run_steps.proofs.Jumps.{front_of, back_of, rest_of, linked_at, skip_taken, skip_passed, ahead_piece}
use Rattle.run_steps.specs.Temporaries.{nothing}
use Rattle.run_steps.proofs.Temporaries.{stays_then}
use Rattle.pli_headline.proofs.Serving.{Serving}
use Rattle.pli_headline.proofs.Acts.{acted, act_piece}
use Rattle.pli_headline.proofs.Operators.{valued}
use Rattle.pli_headline.proofs.Expressions.{Setting, bit_does}
use Rattle.pli_headline.proofs.Statements.{Standing, Block, AllHold, further, scope_of, counted_all, Does}
use Rattle.run_steps.specs.Reach.{Family, Aims, Comes, Closed, reached}
use Rattle.run_steps.proofs.Reach.{before_closed, comes_on, onward, reached_holds}
use Rattle.pli_headline.proofs.Scalars.{Values}

-- ---- what a test chooses

-- the code over the way past what is met
abbrev pub past : Code → Code
past c = skip_where Test.NotEqual a0 zero_register (JumpAhead (size_of c) ∷ [])

abbrev pub free_far : Free nothing 31
free_far = record { reserved_stay = λ y u. refl; known_stay = λ b y u q. q; set = λ y u. refl }

pub met_size : (c : Code) → size_of (if_met c) ≡ 3 + size_of c
met_size c = size_append (past c) c

is_met : (q : Bool) (x z : ℕ) → x ≡ flag q → z ≡ 0 → (if x == z then false else true) ≡ q
is_met true x z e f = ap (λ u. if u == z then false else true) e ∙ ap (λ u. if 1 == u then false else true) f
is_met false x z e f = ap (λ u. if u == z then false else true) e ∙ ap (λ u. if 0 == u then false else true) f

-- where the bit in a0 is set the code is come to, else what stands behind it
pub chosen_piece : {links : Links} {code : List Instr} {i : ℕ} {g : Ground} {v : Services} {h t : ℕ → ℕ} {s : State} {k : ℕ} {aims : Aims (Unit {0})} (q : Bool) (closed : Closed code aims) (f : Family) (c : Code) (one other : Meaning (Unit {0})) → Linked links code i (if_met c) → ((b : Base) → At b i (Known g v h t (valued (flag q)) b) (f b)) → ((f' : Family) → Linked links code (i + 3) c → ((b : Base) → At b (i + 3) (Known g v h t nothing b) (f' b)) → Comes code (i + 3) f' v aims (one k s)) → ((f' : Family) → ((b : Base) → At b (i + (3 + size_of c)) (Known g v h t nothing b) (f' b)) → Comes code (i + (3 + size_of c)) f' v aims (other k s)) → Comes code i f v aims (choose q one other k s)
unfolding choose
chosen_piece {i = i} true closed f c one other l at met otherwise =
    onward closed (skip_taken i f Test.NotEqual a0 zero_register (JumpAhead (size_of c) ∷ []) (front_of (past c) c l) at (λ b. is_met true _ _ (at b).holds.regs.0 (zero_is (at b).holds.body)))
    (λ f' at'. met f' (back_of (past c) c l) (λ b. record { pc = (at' b).pc; holds = record { body = (at' b).holds.body; regs = tt } }))
chosen_piece {links = links} {code = code} {i = i} {g = g} {v = v} {h = h} {t = t} {s = s} {k = k} {aims = aims} false closed f c one other l at met otherwise =
    let lp = front_of (past c) c l in
    let size = met_size c in
    let inside = l.inside in
    let there : i + 1 + (2 + size_of c) ≡ i + (3 + size_of c) = omega arith in
    onward closed (skip_passed i f Test.NotEqual a0 zero_register (JumpAhead (size_of c) ∷ []) lp at (λ b. is_met false _ _ (at b).holds.regs.0 (zero_is (at b).holds.body)))
    (λ f1 at1.
    onward closed (ahead_piece (i + 1) f1 (size_of c) (omega (arith, inside, size)) free_far (rest_of _ (JumpAhead (size_of c) ∷ []) lp)
    (λ b. record { pc = (at1 b).pc; holds = record { body = (at1 b).holds.body; regs = tt } }))
    (λ f2 at2. subst (λ n. Comes code n f2 v aims (other k s)) (sym there) (otherwise f2 (λ b. record { pc = (at2 b).pc ∙ ap (address b) there; holds = (at2 b).holds }))))

-- what stands around an expression of a block
abbrev pub setting : {e : Environment} {block : Names} {types : Types} (bl : Block e block types) {links : Links} {code : List Instr} {v : Services} {s : State} {k : ℕ} {around : Around} → Standing bl links code → (n : Values) → AllHold bl.frames bl.serials (storage v) (e.level ∷ bl.depths) s block types n → Serving k s v around.line → Setting links code (bl.ground n) v s k e block types n around
setting bl routines n all serving =
    record { routines = routines.raises; constants = routines.constants n; temps = bl.temps n; scope = scope_of bl n all; serving = serving }

-- ---- the statements

-- code that runs where a test behind an act is met
pub tested_does : {e : Environment} {block : Names} {types : Types} (bl : Block e block types) (links : Links)
    (code : List Instr) (turns : ℕ) (routines : Standing bl links code) (around : Around) (condition : Y.Bit)
    (line : ℕ) (c : Code) (meaning : Meaning (Unit {0})) → IsProvedBit block types condition
    → bl.taken.words + bit_words condition ≤ bl.words + spare bl.taken → line < 2 ^ 31
    → Does bl links code turns c meaning → Does bl links code turns
    (act_code line ++ (bit_code e bl.taken condition ++ if_met c))
    ((act counted) >> ((V.bit (at_line around line) condition) >>= (λ met. choose met meaning (give tt))))
unfolding ◌>>=◌ ◌>>◌ give
tested_does {e} {block} {types} bl links code turns routines around condition line c meaning is room fits inner =
    record {
      does = λ {i} {s} {v} {h} {t} {aims} closed old n f k l serving all at goal more.
          let a = act_code line in
          let test = bit_code e bl.taken condition in
          let l1 = back_of a (test ++ if_met c) l in
          let l2 = back_of test (if_met c) l1 in
          let e1 = size_append a (test ++ if_met c) in
          let e2 = size_append test (if_met c) in
          let e3 = met_size c in
          let j = i + size_of a + size_of test in
          let place : j + (3 + size_of c) ≡ i + size_of (a ++ (test ++ if_met c)) = omega (arith, e1, e2, e3) in
          let place' : j + 3 + size_of c ≡ i + size_of (a ++ (test ++ if_met c)) = omega (arith, e1, e2, e3) in
          let here = at_line around line in
          let branch : Bool → Meaning (Unit {0}) = λ met. choose met meaning (give tt) in
          let next' : Unit {0} → Meaning (Unit {0}) = λ u. (V.bit here condition) >>= branch in
          let w = bl.words_are n in
          comes_on k (act counted k s) next'
          (act_piece (before_closed k next' closed) f line old k fits (front_of a (test ++ if_met c) l) serving at
          (λ f1 serving1 at1.
          let s1 = with_world (counted s.world) s in
          let all1 : AllHold bl.frames bl.serials (storage v) (e.level ∷ bl.depths) s1 block types n = counted_all _ all in
          comes_on k (V.bit here condition k s1) branch
          ((bit_does condition {e = e} {around = here} (setting bl routines n all1 serving1) is).does (before_closed k branch closed) f1 bl.taken (omega (arith, room, w)) (front_of test (if_met c) l1) at1
          (λ met f2 h2 t2 one stays at2.
          chosen_piece met closed f2 c meaning (give tt) l2 at2
          (λ f3 l3 at3.
          inner.does closed line n f3 k l3 serving1 all1 at3
          (λ s4 v4 line4 n4 h4 t4 f4 serving4 all4 stays4 at4.
          subst (λ u. aims.done u f4 v4 tt s4) (sym place')
          (goal s4 v4 line4 n4 h4 t4 f4 serving4 all4 (stays_then stays stays4) (λ b. record { pc = (at4 b).pc ∙ ap (address b) place'; holds = (at4 b).holds }))) (further more (omega arith) (omega arith) stays))
          (λ f3 at3.
          record {
            to = λ early.
                subst (λ u. aims.done u f3 (acted line v) tt s1) (sym place)
                (goal s1 (acted line v) line n h2 t2 f3 serving1 all1 stays (λ b. record { pc = (at3 b).pc ∙ ap (address b) place; holds = (at3 b).holds }));
          })))));
    }

pub if_does : {e : Environment} {block : Names} {types : Types} (bl : Block e block types) (links : Links)
    (code : List Instr) (routines : Standing bl links code) (around : Around) (condition : Y.Bit) (unit : Y.Stmt)
    (line : ℕ) → IsProvedBit block types condition → bl.taken.words + bit_words condition ≤ bl.words + spare bl.taken
    → line < 2 ^ 31 → Does bl links code around.turns (stmt_code e bl.taken unit) (M.statement around unit)
    → Does bl links code around.turns (stmt_code e bl.taken (Y.If condition unit line))
    (M.statement around (Y.If condition unit line))
unfolding M.statement
if_does {e} bl links code routines around condition unit line is room fits inner =
    tested_does bl links code around.turns routines around condition line (stmt_code e bl.taken unit) (M.statement around unit) is room fits inner

pub if_else_does : {e : Environment} {block : Names} {types : Types} (bl : Block e block types) (links : Links)
    (code : List Instr) (routines : Standing bl links code) (around : Around) (condition : Y.Bit)
    (unit otherwise : Y.Stmt) (line : ℕ) → IsProvedBit block types condition
    → bl.taken.words + bit_words condition ≤ bl.words + spare bl.taken → line < 2 ^ 31
    → Does bl links code around.turns (stmt_code e bl.taken unit) (M.statement around unit)
    → Does bl links code around.turns (stmt_code e bl.taken otherwise) (M.statement around otherwise)
    → Does bl links code around.turns (stmt_code e bl.taken (Y.IfElse condition unit otherwise line))
    (M.statement around (Y.IfElse condition unit otherwise line))
unfolding M.statement ◌>>=◌ ◌>>◌
if_else_does {e} {block} {types} bl links code routines around condition unit otherwise line is room fits first second =
    record {
      does = λ {i} {s} {v} {h} {t} {aims} closed old n f k l serving all at goal more.
          let a = act_code line in
          let test = bit_code e bl.taken condition in
          let c = stmt_code e bl.taken unit in
          let d = stmt_code e bl.taken otherwise in
          let over = JumpAhead (size_of d) ∷ [] in
          let both = if_met (c ++ over) in
          let l1 = back_of a (test ++ (both ++ d)) l in
          let l2 = back_of test (both ++ d) l1 in
          let e1 = size_append a (test ++ (both ++ d)) in
          let e2 = size_append test (both ++ d) in
          let e3 = size_append both d in
          let e4 = met_size (c ++ over) in
          let e5 = size_append c over in
          let j = i + size_of a + size_of test in
          let whole = i + size_of (a ++ (test ++ (both ++ d))) in
          let place : j + (3 + size_of (c ++ over)) + size_of d ≡ whole = omega (arith, e1, e2, e3, e4) in
          let place' : j + 3 + size_of c + (2 + size_of d) ≡ whole = omega (arith, e1, e2, e3, e4, e5) in
          let there : j + size_of both ≡ j + (3 + size_of (c ++ over)) = omega (arith, e4) in
          let ld = linked_at (j + (3 + size_of (c ++ over))) d there (back_of both d l2) in
          let here = at_line around line in
          let branch : Bool → Meaning (Unit {0}) = λ met. choose met (M.statement around unit) (M.statement around otherwise) in
          let next' : Unit {0} → Meaning (Unit {0}) = λ u. (V.bit here condition) >>= branch in
          let w = bl.words_are n in
          let inside = l.inside in
          comes_on k (act counted k s) next'
          (act_piece (before_closed k next' closed) f line old k fits (front_of a (test ++ (both ++ d)) l) serving at
          (λ f1 serving1 at1.
          let s1 = with_world (counted s.world) s in
          let all1 : AllHold bl.frames bl.serials (storage v) (e.level ∷ bl.depths) s1 block types n = counted_all _ all in
          comes_on k (V.bit here condition k s1) branch
          ((bit_does condition {e = e} {around = here} (setting bl routines n all1 serving1) is).does (before_closed k branch closed) f1 bl.taken (omega (arith, room, w)) (front_of test (both ++ d) l1) at1
          (λ met f2 h2 t2 one stays at2.
          chosen_piece met closed f2 (c ++ over) (M.statement around unit) (M.statement around otherwise) (front_of both d l2) at2
          (λ f3 l3 at3.
          first.does closed line n f3 k (front_of c over l3) serving1 all1 at3
          (λ s4 v4 line4 n4 h4 t4 f4 serving4 all4 stays4 at4.
          let r = ahead_piece (j + 3 + size_of c) f4 (size_of d) (omega (arith, inside, place')) free_far (back_of c over l3) at4 in
          closed.done r tt s4
          (subst (λ u. aims.done u (reached r) v4 tt s4) (sym place')
          (goal s4 v4 line4 n4 h4 t4 (reached r) serving4 all4 (stays_then stays stays4) (λ b. record { pc = (reached_holds r b).pc ∙ ap (address b) place'; holds = (reached_holds r b).holds })))) (further more (omega arith) (omega arith) stays))
          (λ f3 at3.
          second.does closed line n f3 k ld serving1 all1 at3
          (λ s4 v4 line4 n4 h4 t4 f4 serving4 all4 stays4 at4.
          subst (λ u. aims.done u f4 v4 tt s4) (sym place)
          (goal s4 v4 line4 n4 h4 t4 f4 serving4 all4 (stays_then stays stays4) (λ b. record { pc = (at4 b).pc ∙ ap (address b) place; holds = (at4 b).holds }))) (further more (omega arith) (omega arith) stays))))));
    }

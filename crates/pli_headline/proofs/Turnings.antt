-- The tests of a turn of DO with a variable that counts: the limit, and then WHILE.
use Rattle.std.proofs.Common.{◌≡◌, ℕ, ◌+◌, ◌≤◌, List, [], ◌∷◌, ◌++◌, length, Option, None, Some, Bool, true, false, refl, sym, ap, ◌∙◌, subst, arith}
use Rattle.std.specs.Prelude.{ℤ, pos, int_lt, ◌==◌, if◌then◌else◌}
use Rattle.rv_meaning.specs.declared.instr.Instr.{Instr}
use Rattle.rv_meaning.specs.declared.instr.RegisterOp.TheVariants as Op
use Rattle.rv_meaning.specs.declared.instr.BranchTest.TheVariants as Test
use Rattle.rv_meaning.specs.Words.{word, flag}
use Rattle.pli_typing.specs.TypedTree as Y
use Rattle.pli_meaning.specs.StorageState.{State}
use Rattle.pli_meaning.specs.Control.{give, choose, ◌>>=◌}
use Rattle.pli_meaning.specs.Raising.{Around}
use Rattle.pli_meaning.specs.Evaluating as V
use Rattle.pli_meaning.specs.Executing as M
use Rattle.pli_meaning.specs.Executing.{has_not_passed}
use Rattle.pli_serving.specs.ServiceState.{Services}
use Rattle.pli_coding.specs.Registers.{zero_register, frame_register, a0, u1, u2, u3}
use Rattle.pli_coding.specs.Assembly.{JumpAhead, Code, size_of}
use Rattle.pli_coding.specs.Instructions.{registers, load_word, skip_where}
use Rattle.pli_coding.specs.Environments.{Environment, Taken}
use Rattle.pli_coding.specs.Expressions.{number_code, bit_code}
use Rattle.pli_coding.specs.Statements.{limit_place, step_place, in_turns, counter_read, passed, passed_by}
use Rattle.pli_coding.specs.Statements.{limit_tested, limit_kept, while_kept}
use Rattle.pli_coding.specs.Linking.{Links}
use Rattle.temporary_bounds.specs.WordBounds.{bit_if, reference_words}
use Rattle.temporary_bounds.specs.Spare.{spare}
use Rattle.pli_headline.specs.ProvedSoFar.{Names, Types, IsProvedBitIf, IsProvedNumber}
use Rattle.pli_headline.proofs.Storages.{storage}
use Rattle.run_steps.specs.Engine.{Base, address}
use Rattle.run_steps.proofs.Linking.{size_append}
use Rattle.run_steps.specs.Items.{Linked, At}
use Rattle.run_steps.specs.Numbers.{IsWide}
use Rattle.run_steps.specs.Bodies.{Ground, Known}
use Rattle.run_steps.proofs.Bodies.{zero_is}
use Rattle.run_steps.proofs.Jumps.{front_of, back_of, rest_of, skip_taken, skip_passed, ahead_piece}
use Rattle.run_steps.specs.Temporaries.{Stays, nothing}
use Rattle.run_steps.proofs.Temporaries.{stays_same}
use Rattle.pli_headline.proofs.Serving.{Serving}
use Rattle.pli_headline.proofs.Operators.{valued}
use Rattle.pli_headline.proofs.Expressions.{number_does, bit_does}
use Rattle.pli_headline.proofs.Statements.{Standing, Block, AllHold}
use Rattle.pli_headline.proofs.Ifs.{free_far, setting}
use Rattle.pli_headline.proofs.Limits.{StepWaits, step_stays, limit_piece}
use Rattle.run_steps.specs.Reach.{Family, Aims, Comes, Closed, reached}
use Rattle.run_steps.proofs.Reach.{before_closed, comes_on, reached_holds}
use Rattle.pli_headline.proofs.Scalars.{Values}

-- what a test comes to: it is met behind its code, or the turns are over at a place
abbrev pub Met : {e : Environment} {block : Names} {types : Types} → Block e block types → Values → Services → State → (h t : ℕ → ℕ) → (met over : ℕ) → Aims Bool → Type 0
Met bl n v s h t met over aims =
    ((f : Family) (h' t' : ℕ → ℕ) → Stays (in_turns bl.taken) h t h' t' → ((b : Base) → At b met (Known (bl.ground n) v h' t' nothing b) (f b)) → aims.done met f v true s)
    × ((f : Family) (h' t' : ℕ → ℕ) → Stays (in_turns bl.taken) h t h' t' → ((b : Base) → At b over (Known (bl.ground n) v h' t' nothing b) (f b)) → aims.done over f v false s)

-- ---- the limit

-- the limit, and the step, in the words that wait
abbrev pub LimitWaits : Option Y.Number → Option ℤ → (t : ℕ → ℕ) → (j : ℕ) → Type 0
LimitWaits None None t j = Unit {0}
LimitWaits (Some x) (Some limit) t j = IsWide limit × (t j ≡ word limit)
LimitWaits _ _ t j = ⊥

given_as_chosen : (b : Bool) (k : ℕ) (s : State) → choose b (give true) (give false) k s ≡ give b k s
unfolding choose give
given_as_chosen true k s = refl
given_as_chosen false k s = refl

abbrev limit_sign : (behind : ℕ) → Code
limit_sign behind =
    registers Op.SetLess u3 u1 a0
    ∷ (skip_where Test.GreaterOrEqual u2 zero_register (registers Op.SetLess u3 a0 u1 ∷ [])
    ++ skip_where Test.Equal u3 zero_register (JumpAhead behind ∷ []))

passed_size : (falls : Bool) (c d : ℕ) → size_of (passed falls c) ≡ size_of (passed falls d)
passed_size true c d = refl
passed_size false c d = refl

passed_by_size : (taken : Taken) (step : Option ℤ) (c d : ℕ) → size_of (passed_by taken step c)
    ≡ size_of (passed_by taken step d)
passed_by_size taken None c d =
    let b = load_word u2 frame_register (step_place taken) in
    size_append b (limit_sign c) ∙ sym (size_append b (limit_sign d))
passed_by_size taken (Some z) c d = passed_size (int_lt z (pos 0)) c d

tested_size : (taken : Taken) (step : Option ℤ) (c d : ℕ) → size_of (limit_tested taken step c)
    ≡ size_of (limit_tested taken step d)
tested_size taken step c d =
    let a = load_word u1 frame_register (limit_place taken) in
    size_append a (passed_by taken step c)
    ∙ ap (λ u. size_of a + u) (passed_by_size taken step c d)
    ∙ sym (size_append a (passed_by taken step d))

-- the code of a test is as long whatever stands behind it
pub limit_size : (e : Environment) (taken : Taken) (counter : Y.Counter) (limit : Option Y.Number) (step :
    Option ℤ) (c d : ℕ) → size_of (limit_kept e taken counter limit step c)
    ≡ size_of (limit_kept e taken counter limit step d)
limit_size e taken counter None step c d = refl
limit_size e taken counter (Some x) step c d =
    size_append (counter_read e taken counter) (limit_tested taken step c)
    ∙ ap (λ u. size_of (counter_read e taken counter) + u) (tested_size taken step c d)
    ∙ sym (size_append (counter_read e taken counter) (limit_tested taken step d))

pub condition_size : (e : Environment) (taken : Taken) (condition : Option Y.Bit) (c d : ℕ) → size_of (while_kept e taken condition c) ≡ size_of (while_kept e taken condition d)
condition_size e taken None c d = refl
condition_size e taken (Some x) c d =
    size_append (bit_code e (in_turns taken) x) (skip_where Test.NotEqual a0 zero_register (JumpAhead c ∷ []))
    ∙ sym (size_append (bit_code e (in_turns taken) x) (skip_where Test.NotEqual a0 zero_register (JumpAhead d ∷ [])))

pub within_piece : {links : Links} {code : List Instr} {i : ℕ} {v : Services} {h t : ℕ → ℕ} {s : State} {aims :
    Aims Bool} {e : Environment} {block : Names} {types : Types} (bl : Block e block types) (routines :
    Standing bl links code) (around : Around) (r : Y.Reference) (p : ℕ) (limit : Option Y.Number) (most :
    Option ℤ) (fixed : Option ℤ) (step : ℤ) (behind : ℕ) (closed : Closed code aims) (n : Values) (f : Family) (k : ℕ)
    → IsProvedNumber block types (Y.NumberIn r) → LimitWaits limit most t bl.taken.words → IsWide step
    → StepWaits fixed step t (bl.taken.words + 1) → bl.taken.words + 2 ≤ bl.words
    → bl.taken.words + 2 + reference_words r ≤ bl.words + spare bl.taken
    → i + size_of (limit_kept e bl.taken (Y.NumberCounter p r) limit fixed behind) + behind ≤ length code
    → Linked links code i (limit_kept e bl.taken (Y.NumberCounter p r) limit fixed behind) → Serving k s v around.line
    → AllHold bl.frames bl.serials (storage v) (e.level ∷ bl.depths) s block types n
    → ((b : Base) → At b i (Known (bl.ground n) v h t nothing b) (f b))
    → Met bl n v s h t (i + size_of (limit_kept e bl.taken (Y.NumberCounter p r) limit fixed behind))
    (i + size_of (limit_kept e bl.taken (Y.NumberCounter p r) limit fixed behind) + behind) aims
    → Comes code i f v aims (M.within_limit around (Y.NumberCounter p r) most step k s)
unfolding M.within_limit M.counter_number V.number ◌>>=◌ give
within_piece {i = i} {v = v} {h = h} {t = t} {s = s} {aims = aims} bl routines around r p None None fixed step behind
    closed n f k mine waits ws at_step low room inside l serving all at met =
    let same : i ≡ i + 0 = omega arith in
    record {
      to = λ early. subst (λ u. aims.done u f v true s) (sym same) (met.0 f h t (stays_same
          (in_turns bl.taken) h t) (λ b. record { pc = (at b).pc ∙ ap (address b) same; holds = (at b).holds }));
    }
within_piece {code = code} {i = i} {v = v} {h = h} {t = t} {s = s} {aims = aims} {e = e} {block = block} {types =
    types} bl routines around r p (Some x) (Some limit) fixed step behind closed n f k mine waits ws at_step low room
    inside l serving all at met =
    let a = number_code e (in_turns bl.taken) (Y.NumberIn r) in
    let c = limit_tested bl.taken fixed behind in
    let size = size_append a c in
    let place : i + size_of a + size_of c ≡ i + size_of (a ++ c) = omega (arith, size) in
    let place' : i + size_of a + size_of c + behind ≡ i + size_of (a ++ c) + behind = omega (arith, size) in
    let w = bl.words_are n in
    comes_on k (V.number around (Y.NumberIn r) k s) (λ z. give (has_not_passed limit step z))
    ((number_does (Y.NumberIn r) {e = e} {around = around} (setting bl routines n all serving) mine).does (before_closed k (λ z. give (has_not_passed limit step z)) closed) f (in_turns bl.taken) (omega (arith, room, w)) (front_of a c l) at
    (λ z f1 h1 t1 wz stays at1.
    subst (Comes code (i + size_of a) f1 v aims) (given_as_chosen (has_not_passed limit step z) k s)
    (limit_piece s k (give true) (give false) closed (bl.temps n) f1 bl.taken fixed limit step z behind waits.0 ws wz
    (omega (arith, low, w)) (stays.words bl.taken.words (omega arith) ∙ waits.1)
    (step_stays fixed step t t1 (bl.taken.words + 1) (stays.words (bl.taken.words + 1) (omega arith)) at_step)
    (omega (arith, inside, place')) (back_of a c l) at1
    (λ f2 at2. record {
      to = λ early. subst (λ u. aims.done u f2 v true s) (sym place) (met.0 f2 h1 t1 stays
          (λ b. record { pc = (at2 b).pc ∙ ap (address b) place; holds = (at2 b).holds }));
    })
    (λ f2 at2. record {
      to = λ early. subst (λ u. aims.done u f2 v false s) (sym place') (met.1 f2 h1 t1 stays
          (λ b. record { pc = (at2 b).pc ∙ ap (address b) place'; holds = (at2 b).holds }));
    }))))
within_piece bl routines around r p None (Some limit) fixed step behind closed n f k mine waits ws at_step low room
    inside
    l serving all at met = absurd waits
within_piece bl routines around r p (Some x) None fixed step behind closed n f k mine waits ws at_step low room inside l
    serving all at met = absurd waits

-- ---- WHILE

is_kept : (q : Bool) (x z : ℕ) → x ≡ flag q → z ≡ 0 → (if x == z then false else true) ≡ q
is_kept true x z e f = ap (λ u. if u == z then false else true) e ∙ ap (λ u. if 1 == u then false else true) f
is_kept false x z e f = ap (λ u. if u == z then false else true) e ∙ ap (λ u. if 0 == u then false else true) f

kept_by : {links : Links} {code : List Instr} {i : ℕ} {g : Ground} {v : Services} {h t : ℕ → ℕ} {aims : Aims Bool} (s : State) (q : Bool) (closed : Closed code aims) (f : Family) (behind : ℕ) → i + 3 + behind ≤ length code → Linked links code i (skip_where Test.NotEqual a0 zero_register (JumpAhead behind ∷ [])) → ((b : Base) → At b i (Known g v h t (valued (flag q)) b) (f b)) → ((f' : Family) → ((b : Base) → At b (i + 3) (Known g v h t nothing b) (f' b)) → aims.done (i + 3) f' v true s) → ((f' : Family) → ((b : Base) → At b (i + 3 + behind) (Known g v h t nothing b) (f' b)) → aims.done (i + 3 + behind) f' v false s) → aims.done i f v q s
kept_by {i = i} s true closed f behind inside l at met over =
    let r = skip_taken i f Test.NotEqual a0 zero_register (JumpAhead behind ∷ []) l at (λ b. is_kept true _ _ (at b).holds.regs.0 (zero_is (at b).holds.body)) in
    closed.done r true s (met (reached r) (λ b. let o = reached_holds r b in record { pc = o.pc; holds = record { body = o.holds.body; regs = tt } }))
kept_by {i = i} {v = v} {aims = aims} s false closed f behind inside l at met over =
    let r = skip_passed i f Test.NotEqual a0 zero_register (JumpAhead behind ∷ []) l at (λ b. is_kept false _ _ (at b).holds.regs.0 (zero_is (at b).holds.body)) in
    let q = ahead_piece (i + 1) (reached r) behind (omega (arith, inside)) free_far (rest_of _ (JumpAhead behind ∷ []) l) (λ b. let o = reached_holds r b in record { pc = o.pc; holds = record { body = o.holds.body; regs = tt } }) in
    let there : i + 1 + (2 + behind) ≡ i + 3 + behind = omega arith in
    closed.done r false s (closed.done q false s (subst (λ u. aims.done u (reached q) v false s) (sym there) (over (reached q) (λ b. let o = reached_holds q b in record { pc = o.pc ∙ ap (address b) there; holds = o.holds }))))

pub condition_piece : {links : Links} {code : List Instr} {i : ℕ} {v : Services} {h t : ℕ → ℕ} {s : State}
    {aims : Aims Bool} {e : Environment} {block : Names} {types : Types} (bl : Block e block types)
    (routines : Standing bl links code) (around : Around) (condition : Option Y.Bit) (behind : ℕ)
    (closed : Closed code aims) (n : Values) (f : Family) (k : ℕ) → IsProvedBitIf block types condition
    → bl.taken.words + 2 + bit_if condition ≤ bl.words + spare bl.taken
    → i + size_of (while_kept e bl.taken condition behind) + behind ≤ length code
    → Linked links code i (while_kept e bl.taken condition behind) → Serving k s v around.line
    → AllHold bl.frames bl.serials (storage v) (e.level ∷ bl.depths) s block types n
    → ((b : Base) → At b i (Known (bl.ground n) v h t nothing b) (f b))
    → Met bl n v s h t (i + size_of (while_kept e bl.taken condition behind))
    (i + size_of (while_kept e bl.taken condition behind) + behind) aims
    → Comes code i f v aims (M.condition_met around condition k s)
unfolding M.condition_met give
condition_piece {i = i} {v = v} {h = h} {t = t} {s = s} {aims = aims} bl routines around None behind closed n f k is room inside l serving all at met =
    let same : i ≡ i + 0 = omega arith in
    record {
      to = λ early. subst (λ u. aims.done u f v true s) (sym same) (met.0 f h t (stays_same
          (in_turns bl.taken) h t) (λ b. record { pc = (at b).pc ∙ ap (address b) same; holds = (at b).holds }));
    }
condition_piece {i = i} {v = v} {s = s} {aims = aims} {e = e} bl routines around (Some x) behind closed n f k is room inside l serving all at met =
    let a = bit_code e (in_turns bl.taken) x in
    let c = skip_where Test.NotEqual a0 zero_register (JumpAhead behind ∷ []) in
    let size = size_append a c in
    let place : i + size_of a + 3 ≡ i + size_of (a ++ c) = omega (arith, size) in
    let place' : i + size_of a + 3 + behind ≡ i + size_of (a ++ c) + behind = omega (arith, size) in
    let w = bl.words_are n in
    (bit_does x {e = e} {around = around} (setting bl routines n all serving) is).does closed f (in_turns bl.taken) (omega (arith, room, w)) (front_of a c l) at
    (λ q f1 h1 t1 u stays at1.
    kept_by s q closed f1 behind (omega (arith, inside, place')) (back_of a c l) at1
    (λ f2 at2. subst (λ m. aims.done m f2 v true s) (sym place) (met.0 f2 h1 t1 stays (λ b. record { pc = (at2 b).pc ∙ ap (address b) place; holds = (at2 b).holds })))
    (λ f2 at2. subst (λ m. aims.done m f2 v false s) (sym place') (met.1 f2 h1 t1 stays (λ b. record { pc = (at2 b).pc ∙ ap (address b) place'; holds = (at2 b).holds }))))

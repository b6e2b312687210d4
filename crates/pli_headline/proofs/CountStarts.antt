-- DO with a variable or an element that counts, as a statement: a number, a bit or a text is evaluated and waits, then limit and step,
-- and what counts begins with the number that the start is.
use Rattle.std.proofs.Common.{◌≡◌, ℕ, ◌+◌, ◌^◌, ◌<◌, ◌≤◌, List, ◌∷◌, ◌++◌, Option, sym, ap, ◌∙◌, subst, arith, inl}
use Rattle.std.proofs.Common.{inr, Bool, refl}
use Rattle.std.specs.Prelude.{ℤ}
use Rattle.rv_meaning.specs.declared.instr.Instr.{Instr}
use Rattle.rv_meaning.specs.Words.{word, flag}
use Rattle.pli_typing.specs.TypedTree as Y
use Rattle.pli_meaning.specs.World.{counted}
use Rattle.pli_meaning.specs.BasicValues.{BasicValue, BasicNumber}
use Rattle.pli_meaning.specs.Numbers.{checked}
use Rattle.pli_meaning.specs.StorageState.{State, with_world}
use Rattle.pli_meaning.specs.Control.{Meaning, act, give, repeated_while, ◌>>=◌, ◌>>◌}
use Rattle.pli_meaning.specs.Raising as R
use Rattle.pli_meaning.specs.Raising.{Around, at_line}
use Rattle.pli_meaning.specs.Evaluating as V
use Rattle.pli_meaning.specs.Executing as M
use Rattle.pli_serving.specs.ServiceState.{Services, TextEntry}
use Rattle.pli_coding.specs.Registers.{a0}
use Rattle.pli_coding.specs.Assembly.{Code, size_of}
use Rattle.pli_coding.specs.Instructions.{small, tested_service}
use Rattle.pli_coding.specs.Allocating.{act_code}
use Rattle.pli_coding.specs.Arithmetic.{fitted_code}
use Rattle.pli_coding.specs.Environments.{Environment, Taken}
use Rattle.pli_coding.specs.Storing.{word_stored}
use Rattle.pli_coding.specs.Statements.{constant_step, in_turns, limit_code, step_code, stmts_code}
use Rattle.pli_coding.specs.Statements.{before_turns, start_code, start_loaded, stmt_code}
use Rattle.pli_coding.specs.Linking.{Links}
use Rattle.temporary_bounds.specs.WordBounds.{number_words, bit_words, text_words, reference_words, subscripts_words}
use Rattle.temporary_bounds.specs.WordBounds.{number_if, bit_if, value_words}
use Rattle.temporary_bounds.specs.Spare.{spare}
use Rattle.temporary_bounds.proofs.Takes.{none_spare}
use Rattle.pli_headline.specs.ProvedSoFar.{Names, Types, IsProvedNumber, IsProvedNumberIf, IsProvedBitIf, IsPart}
use Rattle.pli_headline.specs.ProvedSoFar.{IsAssigned, AreSubscripts, AreProvedNumbers, IsProvedBit, IsProvedStart}
use Rattle.pli_headline.specs.ProvedSoFar.{IsProvedText}
use Rattle.pli_headline.proofs.Storages.{storage}
use Rattle.run_steps.specs.Engine.{Base, address}
use Rattle.run_steps.proofs.Linking.{size_append}
use Rattle.run_steps.specs.Items.{Linked, At}
use Rattle.run_steps.specs.Numbers.{IsWide}
use Rattle.run_steps.proofs.Numbers.{word_small}
use Rattle.run_steps.specs.Bodies.{Known, Ground}
use Rattle.run_steps.proofs.Jumps.{front_of, back_of, linked_at}
use Rattle.run_steps.specs.Temporaries.{Stays, nothing, put}
use Rattle.run_steps.proofs.Temporaries.{stays_same, stays_then, put_same}
use Rattle.pli_headline.proofs.Serving.{Serving}
use Rattle.pli_headline.proofs.Acts.{act_piece}
use Rattle.pli_headline.proofs.Operators.{valued}
use Rattle.pli_headline.proofs.Precisions.{fitted_piece}
use Rattle.pli_headline.proofs.Targets.{Takes, scalar_takes, element_takes, assigned_read}
use Rattle.pli_headline.proofs.Statements.{Standing, Block, AllHold, counted_all, Behind, Enough, further, Does}
use Rattle.pli_headline.proofs.Waiting.{stays_fewer, read_piece, stays_kept}
use Rattle.pli_headline.proofs.Limits.{StepWaits, step_stays}
use Rattle.pli_headline.proofs.Turnings.{LimitWaits}
use Rattle.run_steps.specs.Reach.{Family, Aims, Comes, Closed, before}
use Rattle.run_steps.proofs.Reach.{before_closed, comes_on, onward}
use Rattle.pli_headline.proofs.Counts.{Counts, turning, standing_turning, turns_of, turn_rest, limit_stays}
use Rattle.pli_headline.proofs.Counts.{head_piece, limits_piece, word_kept}
use Rattle.pli_headline.proofs.EditTexts.{at_other_texts}
use Rattle.pli_headline.proofs.Expressions.{bit_does, number_does, text_does}
use Rattle.pli_headline.proofs.Evaluations.{bit_kind, number_kind}
use Rattle.pli_meaning.specs.Texts.{bit_number, number_in_text}
use Rattle.pli_headline.proofs.Scalars.{Values, bit_wide, bit_word}
use Rattle.pli_meaning.specs.Codes.{conversion_code}
use Rattle.std.proofs.Math.Nat.{le-max_right}
use Rattle.pli_headline.proofs.TextValues.{number_finishes}
use Rattle.pli_serving.specs.Outcomes.{pushed}
use Rattle.pli_headline.proofs.Ifs.{setting}

-- ---- behind the start

-- its meaning
abbrev loop_of : Around → (line : ℕ) → Y.Counter → Option ℤ → ℤ → Option Y.Bit → Meaning (Unit {0}) → Meaning (Unit {0})
loop_of around line counter most by condition part =
    repeated_while around.turns (M.turn_due (at_line around line) counter most by condition) (part >> (M.stepped (at_line around line) counter by))

abbrev stored_first : Around → (line : ℕ) → Y.Counter → Option ℤ → ℤ → Option Y.Bit → Meaning (Unit {0}) → BasicValue → Meaning (Unit {0})
stored_first around line counter most by condition part first =
    (M.assigned (at_line around line) (M.reference_of counter) first) >> (loop_of around line counter most by condition part)

abbrev count_rest : Around → (line : ℕ) → Y.Counter → Option Y.Number → Y.Number → Option Y.Bit → Meaning (Unit {0}) → V.Computational → Meaning (Unit {0})
count_rest around line counter limit step condition part value =
    (M.limit_of (at_line around line) limit) >>= (λ most. (V.number (at_line around line) step) >>= (λ by. (M.counter_started (at_line around line) counter value) >>= (stored_first around line counter most by condition part)))

-- the number in a0 is what the variable begins with, and the turns come
begun_piece : {links : Links} {code : List Instr} {i : ℕ} {v : Services} {h0 t0 h t : ℕ → ℕ} {s : State} {aims :
    Aims (Unit {0})} {e : Environment} {block : Names} {types : Types} (bl : Block e block types) (routines :
    Standing bl links code) (around : Around) (r : Y.Reference) (p : ℕ) (limit : Option Y.Number) (most :
    Option ℤ) (fixed : Option ℤ) (by : ℤ) (condition : Option Y.Bit) (line : ℕ) (c : Code) (part : Meaning (Unit {0}))
    → Counts bl links code r p → IsWide by → IsProvedBitIf block types condition → bl.taken.words + 3 ≤ bl.words
    → bl.taken.words + 2 + bit_if condition ≤ bl.words + spare bl.taken → line < 2 ^ 31
    → Does (turning bl) links code around.turns c part → (closed : Closed code aims) (n : Values) (f : Family) (k :
    ℕ) (z : ℤ) → IsWide z → Linked links code i (fitted_code (in_turns bl.taken) p)
    → Linked links code (i + size_of (fitted_code (in_turns bl.taken) p))
    (turns_of bl r p limit fixed condition line c) → LimitWaits limit most t bl.taken.words
    → StepWaits fixed by t (bl.taken.words + 1) → Serving k s v line
    → AllHold bl.frames bl.serials (storage v) (e.level ∷ bl.depths) s block types n
    → ((b : Base) → At b i (Known (bl.ground n) v h t (valued (word z)) b) (f b)) → Stays bl.taken h0 t0 h t
    → Behind bl k h0 t0 (i + size_of (fitted_code (in_turns bl.taken) p)
    + size_of (turns_of bl r p limit fixed condition line c)) aims
    → Enough bl links k around.turns i h0 t0 v.world.acts aims.jumped aims.returned
    → Comes code i f v (before code aims k (stored_first around line (Y.NumberCounter p r) most by condition part))
    (M.counter_value (at_line around line) (Y.NumberCounter p r) z k s)
unfolding M.counter_value ◌>>=◌ ◌>>◌ give
begun_piece {i = i} {v = v} {t = t} {s = s} {e = e} {block = block} {types = types} bl routines around r p limit most
    fixed by condition line c part counts wby isc room roomc fits inner closed n f k z wz lf lt waits at_step serving
    all at stays goal more =
    let here = at_line around line in
    let takes = counts.takes in
    let counter = Y.NumberCounter p r in
    let w = bl.taken.words in
    let c4 = fitted_code (in_turns bl.taken) p in
    let i4 = i + size_of c4 in
    let st = word_stored e (in_turns bl.taken) r in
    let begun = st ++ act_code line in
    let rest = turn_rest bl r p limit fixed condition line c in
    let lst = front_of st (act_code line) (front_of begun rest lt) in
    let s6 = size_append begun rest in
    let s7 = size_append st (act_code line) in
    let inside = lt.inside in
    let words = bl.words_are n in
    let few : p ≤ 31 = (takes.old s (storage v) n all).1.0 in
    let store = stored_first around line counter most by condition part in
    let goes : Unit {0} → Meaning (Unit {0}) = λ q. loop_of around line counter most by condition part in
    let as_stored : ℤ → Meaning BasicValue = λ u. give (BasicNumber u) in
    comes_on k (R.value_of here (checked p z) k s) as_stored
    (fitted_piece (before_closed k as_stored (before_closed k store closed)) routines.raises (bl.temps n) f here
    (in_turns bl.taken) p z k few wz (λ none. let z = none_spare (in_turns bl.taken) none in omega
    (arith, z, room, words)) lf serving at
    (λ f1 fits1 at1.
    record {
      to = λ early.
          comes_on k (M.assigned here r (BasicNumber z) k s) goes
          (takes.does (before_closed k goes closed) f1 here z n k (few, fits1) lst serving all at1
          (λ s2 n2 h2 t2 f2 serving2 all2 stays2 at2.
          let before2 = stays_then stays (stays_fewer 2 stays2) in
          head_piece bl routines around r p limit most fixed by condition line c part counts wby isc room roomc fits
          inner around.turns closed (i4 + size_of st) line n2 f2 k (let q = more.enough in omega (arith, q))
          (omega (arith, inside, s6, s7)) lt
          (limit_stays limit most _ t2 w (stays2.words w (omega arith)) waits)
          (step_stays fixed by t t2 (w + 1) (stays2.words (w + 1) (omega arith)) at_step)
          serving2 all2 at2
          (λ s3 v3 line3 n3 h3 t3 f3 serving3 all3 stays3 at3. goal s3 v3 line3 n3 h3 t3 f3 serving3 all3 (stays_then before2 stays3) at3)
          (further more (omega arith) (omega arith) before2)));
    }))

-- ---- starts

-- what waits comes back as a number in a0, or the run ends, with the services that were there before it waited
record Loads (links : Links) (code : List Instr) (g : Ground) (v' v : Services) (s : State) (k : ℕ) (around : Around) (r : Y.Reference) (p : ℕ) (c : Code) (x : ℕ) (place : ℕ) (value : V.Computational) : Type 1 where
  does : {i : ℕ} {h t : ℕ → ℕ} {aims : Aims BasicValue} (closed : Closed code aims) (f : Family) → Linked links code i c → t place ≡ x → ((b : Base) → At b i (Known g v' h t nothing b) (f b)) → ((z : ℤ) (f' : Family) → IsWide z → ((b : Base) → At b (i + size_of c) (Known g v h t (valued (word z)) b) (f' b)) → Comes code (i + size_of c) f' v aims (M.counter_value around (Y.NumberCounter p r) z k s)) → Comes code i f v' aims (M.counter_started around (Y.NumberCounter p r) value k s)

-- a start is evaluated by one piece of code, and waits until another loads it
record Starts {e : Environment} {block : Names} {types : Types} (bl : Block e block types) (links : Links) (code : List Instr) (around : Around) (r : Y.Reference) (p : ℕ) (start : Y.Value) (c0 c3 : Code) : Type 1 where
  does : {i : ℕ} {s : State} {v : Services} {h t : ℕ → ℕ} {aims : Aims V.Computational} (closed : Closed code aims) (n : Values) (f : Family) (k : ℕ) → Linked links code i c0 → Serving k s v around.line → AllHold bl.frames bl.serials (storage v) (e.level ∷ bl.depths) s block types n → ((b : Base) → At b i (Known (bl.ground n) v h t nothing b) (f b)) → ((value : V.Computational) (v' : Services) (f' : Family) (h' t' : ℕ → ℕ) → Serving k s v' around.line → storage v' ≡ storage v → Stays bl.taken h t h' t' → Loads links code (bl.ground n) v' v s k around r p c3 (t' (bl.taken.words + 2)) (bl.taken.words + 2) value → ((b : Base) → At b (i + size_of c0) (Known (bl.ground n) v' h' t' nothing b) (f' b)) → aims.done (i + size_of c0) f' v' value s) → Comes code i f v aims (V.computational around start k s)

-- ---- the statement

abbrev count_ahead : Environment → Taken → (p : ℕ) → Option Y.Number → Y.Number → (c0 c3 : Code) → Code
count_ahead e taken p limit step c0 c3 =
    c0 ++ (limit_code e taken limit ++ (step_code e taken step ++ (c3 ++ fitted_code (in_turns taken) p)))

count_does : {e : Environment} {block : Names} {types : Types} (bl : Block e block types) (links : Links) (code :
    List Instr) (routines : Standing bl links code) (around : Around) (r : Y.Reference) (p : ℕ) (start :
    Y.Value) (c0 c3 : Code) (limit : Option Y.Number) (step : Y.Number) (condition : Option Y.Bit) (body :
    Y.Stmts) (line : ℕ) → Starts bl links code (at_line around line) r p start c0 c3 → Counts bl links code r p
    → IsProvedNumberIf block types limit → IsProvedNumber block types step → IsProvedBitIf block types condition
    → bl.taken.words + 3 ≤ bl.words → bl.taken.words + 3 + number_if limit ≤ bl.words + spare bl.taken
    → bl.taken.words + 3 + number_words step ≤ bl.words + spare bl.taken
    → bl.taken.words + 2 + bit_if condition ≤ bl.words + spare bl.taken
    → line < 2 ^ 31 → Does (turning bl) links code around.turns (stmts_code e (in_turns bl.taken) body)
    (M.list around body)
    → Does bl links code around.turns
    (act_code line
    ++ (count_ahead e bl.taken p limit step c0 c3 ++ turns_of bl r p limit (constant_step step) condition line
    (stmts_code e (in_turns bl.taken) body)))
    (M.statement around (Y.DoCount (Y.NumberCounter p r) start limit step condition body line))
unfolding M.statement M.list ◌>>=◌ ◌>>◌
count_does {e} {block} {types} bl links code routines around r p start c0 c3 limit step condition body line starts counts isl iss isc room rooml rooms roomc fits inner =
    record {
      does = λ {i} {s} {v} {h} {t} {aims} closed old n f k l serving all at goal more.
          let here = at_line around line in
          let counter = Y.NumberCounter p r in
          let w = bl.taken.words in
          let a = act_code line in
          let c1 = limit_code e bl.taken limit in
          let c2 = step_code e bl.taken step in
          let c4 = fitted_code (in_turns bl.taken) p in
          let c = stmts_code e (in_turns bl.taken) body in
          let turns' = turns_of bl r p limit (constant_step step) condition line c in
          let ahead = count_ahead e bl.taken p limit step c0 c3 in
          let l0 = back_of a (ahead ++ turns') l in
          let lc = front_of ahead turns' l0 in
          let l1 = back_of c0 (c1 ++ (c2 ++ (c3 ++ c4))) lc in
          let l2 = back_of c1 (c2 ++ (c3 ++ c4)) l1 in
          let l3 = back_of c2 (c3 ++ c4) l2 in
          let s0 = size_append a (ahead ++ turns') in
          let s1 = size_append ahead turns' in
          let s2 = size_append c0 (c1 ++ (c2 ++ (c3 ++ c4))) in
          let s3 = size_append c1 (c2 ++ (c3 ++ c4)) in
          let s4 = size_append c2 (c3 ++ c4) in
          let s5 = size_append c3 c4 in
          let i0 = i + size_of a in
          let i3 = i0 + size_of c0 + size_of c1 + size_of c2 + size_of c3 in
          let begins : i0 + size_of ahead ≡ i3 + size_of c4 = omega (arith, s2, s3, s4, s5) in
          let lt = linked_at (i3 + size_of c4) turns' begins (back_of ahead turns' l0) in
          let place : i3 + size_of c4 + size_of turns' ≡ i + size_of (a ++ (ahead ++ turns')) = omega (arith, s0, s1, begins) in
          let part = M.list_with around (M.labels_in body) (M.statements around body) in
          let behind' = count_rest around line counter limit step condition part in
          let next' : Unit {0} → Meaning (Unit {0}) = λ q. (V.computational here start) >>= behind' in
          comes_on k (act counted k s) next'
          (act_piece (before_closed k next' closed) f line old k fits (front_of a (ahead ++ turns') l) serving at
          (λ f1 serving1 at1.
          let s' = with_world (counted s.world) s in
          let all1 : AllHold bl.frames bl.serials (storage v) (e.level ∷ bl.depths) s' block types n = counted_all _ all in
          comes_on k (V.computational here start k s') behind'
          (starts.does (before_closed k behind' closed) n f1 k (front_of c0 (c1 ++ (c2 ++ (c3 ++ c4))) lc) serving1 all1 at1
          (λ value v2 f2 h2 t2 serving2 same stays2 loads at2.
          limits_piece bl routines here limit step n
          (λ most by. (M.counter_started here counter value) >>=
          (stored_first around line counter most by condition part)) closed f2 k isl iss room rooml rooms
          (front_of c1 (c2 ++ (c3 ++ c4)) l1) (front_of c2 (c3 ++ c4) l2) serving2
          (subst (λ xs. AllHold bl.frames bl.serials xs (e.level ∷ bl.depths) s' block types n) (sym same) all1) at2
          (λ most by f3 h3 t3 wby waits at_step start3 stays3 at3.
          let store = stored_first around line counter most by condition part in
          comes_on k (M.counter_started here counter value k s') store
          (loads.does (before_closed k store closed) f3 (front_of c3 c4 l3) start3 at3
          (λ z f4 wz at4.
          begun_piece bl routines around r p limit most (constant_step step) by condition line c part counts wby isc
          room roomc fits inner closed n f4 k z wz (back_of c3 c4 l3) lt waits at_step serving1 all1 at4
          (stays_then stays2 stays3)
          (λ s5' v5 line5 n5 h5 t5 f5 serving5 all5 stays5 at5.
          subst (λ q. aims.done q f5 v5 tt s5') (sym place)
          (goal s5' v5 line5 n5 h5 t5 f5 serving5 all5 stays5 (λ b. record { pc = (at5 b).pc ∙ ap (address b) place; holds = (at5 b).holds })))
          (further more (omega arith) (omega arith) (stays_same bl.taken h t)))))))));
    }

-- ---- numbers and bits wait in a word, and texts on the stack of texts

word_loads : {links : Links} {code : List Instr} {v : Services} {s : State} {k : ℕ} {e : Environment} {block : Names} {types : Types} (bl : Block e block types) (n : Values) (around : Around) (r : Y.Reference) (p x : ℕ) (value : V.Computational) (z : ℤ) → bl.taken.words + 3 ≤ bl.words → x ≡ word z → IsWide z → ((s' : State) → M.counter_started around (Y.NumberCounter p r) value k s' ≡ M.counter_value around (Y.NumberCounter p r) z k s') → Loads links code (bl.ground n) v v s k around r p (start_loaded bl.taken) x (bl.taken.words + 2) value
word_loads {code = code} {v = v} {s = s} bl n around r p x value z room is wide same =
    let words = bl.words_are n in
    record {
      does = λ {i} {h} {t} {aims} closed f l waits at goal.
          onward closed (read_piece (bl.temps n) i f a0 (bl.taken.words + 2) (word z) (omega (arith, room, words)) (word_small z wide) (waits ∙ is) (record { reserved_stay = λ y q. refl; known_stay = λ b y q o. o; set = λ y q. refl }) (record { reserved_stay = λ y q. refl; known_stay = λ b y q o. o; set = λ y q. refl }) l at)
          (λ f1 at1. subst (Comes code (i + size_of (start_loaded bl.taken)) f1 v aims) (sym (same s)) (goal z f1 wide at1));
    }

number_starts : {e : Environment} {block : Names} {types : Types} (bl : Block e block types) (links : Links)
    (code : List Instr) (routines : Standing bl links code) (around : Around) (r : Y.Reference) (p precision : ℕ)
    (x : Y.Number) → IsProvedNumber block types x → bl.taken.words + 3 ≤ bl.words
    → bl.taken.words + 3 + number_words x ≤ bl.words + spare bl.taken
    → Starts bl links code around r p (Y.NumberValue precision x) (start_code e bl.taken (Y.NumberValue precision x))
    (start_loaded bl.taken)
unfolding V.computational M.counter_started R.or_error ◌>>=◌ give
number_starts {e} bl links code routines around r p precision x is low room =
    record {
      does = λ {i} {s} {v} {h} {t} {aims} closed n f k l serving all at goal.
          let w = bl.taken.words in
          let as_value : ℤ → Meaning V.Computational = λ z. give (V.ComputationalNumber precision z) in
          comes_on k (V.number around x k s) as_value
          (word_kept number_kind bl n (w + 2) (before_closed k as_value closed) f k
          (number_does x {e = e} {around = around} (setting bl routines n all serving) is) room
          (omega (arith, low)) l at
          (λ z f1 h1 t1 wide stays at1.
          record {
            to = λ early.
                goal (V.ComputationalNumber precision z) v f1 h1 (put t1 (w + 2) (word z)) serving refl
                (stays_then (stays_fewer 3 stays) (stays_kept bl.taken h1 t1 (w + 2) (word z) (omega arith)))
                (word_loads bl n around r p _ (V.ComputationalNumber precision z) z low
                (put_same t1 (w + 2) (word z)) wide (λ s'. refl)) at1;
          }));
    }

bit_starts : {e : Environment} {block : Names} {types : Types} (bl : Block e block types) (links : Links)
    (code : List Instr) (routines : Standing bl links code) (around : Around) (r : Y.Reference) (p : ℕ) (x : Y.Bit)
    → IsProvedBit block types x → bl.taken.words + 3 ≤ bl.words
    → bl.taken.words + 3 + bit_words x ≤ bl.words + spare bl.taken
    → Starts bl links code around r p (Y.BitValue x) (start_code e bl.taken (Y.BitValue x)) (start_loaded bl.taken)
unfolding V.computational M.counter_started R.or_error ◌>>=◌ give
bit_starts {e} bl links code routines around r p x is low room =
    record {
      does = λ {i} {s} {v} {h} {t} {aims} closed n f k l serving all at goal.
          let w = bl.taken.words in
          let as_value : Bool → Meaning V.Computational = λ b. give (V.ComputationalBit b) in
          comes_on k (V.bit around x k s) as_value
          (word_kept bit_kind bl n (w + 2) (before_closed k as_value closed) f k
          (bit_does x {e = e} {around = around} (setting bl routines n all serving) is) room (omega (arith, low)) l at
          (λ met f1 h1 t1 fits stays at1.
          record {
            to = λ early.
                goal (V.ComputationalBit met) v f1 h1 (put t1 (w + 2) (flag met)) serving refl
                (stays_then (stays_fewer 3 stays) (stays_kept bl.taken h1 t1 (w + 2) (flag met) (omega arith)))
                (word_loads bl n around r p _ (V.ComputationalBit met) (bit_number met) low
                (put_same t1 (w + 2) (flag met) ∙ bit_word met) (bit_wide met) (λ s'. refl)) at1;
          }));
    }

text_starts : {e : Environment} {block : Names} {types : Types} (bl : Block e block types) (links : Links)
    (code : List Instr) (routines : Standing bl links code) (around : Around) (r : Y.Reference) (p : ℕ) (x : Y.Text)
    → IsProvedText block types x → bl.taken.words + 3 + text_words x ≤ bl.words + spare bl.taken
    → Starts bl links code around r p (Y.TextValue x) (start_code e bl.taken (Y.TextValue x))
    (small a0 0 ∷ tested_service 26)
unfolding V.computational M.counter_started ◌>>=◌ give
text_starts {e} {block} bl links code routines around r p x is room =
    record {
      does = λ {i} {s} {v} {h} {t} {aims} closed n f k l serving all at goal.
          let words = bl.words_are n in
          let as_value : List ℕ → Meaning V.Computational = λ text. give (V.ComputationalText text) in
          comes_on k (V.text around x k s) as_value
          ((text_does x {e = e} {around = around} (setting bl routines n all serving) is).does (before_closed k as_value closed) f (before_turns bl.taken) (omega (arith, room, words)) l at
          (λ text f1 h1 t1 short stays at1.
          record {
            to = λ early.
                goal (V.ComputationalText text) (pushed (TextEntry text) v) f1 h1 t1 (at_other_texts (TextEntry text ∷ v.entries) serving) refl (stays_fewer 3 stays)
                (record {
                  does = λ {i} {h} {t} {aims} closed' f2 l' waits at2 goal'.
                      let as_number : ℤ → Meaning BasicValue = λ z. M.counter_value around (Y.NumberCounter p r) z in
                      comes_on k (R.or_error around conversion_code (number_in_text text) k s) as_number
                      ((number_finishes routines.raises around serving text).does (before_closed k as_number closed') f2 bl.taken (omega (arith, room, words)) l' at2
                      (λ z f3 wide at3. goal' z f3 wide at3));
                })
                at1;
          }));
    }

-- ---- the statement with a variable or an element of the block

start_does : {e : Environment} {block : Names} {types : Types} (bl : Block e block types) (links : Links)
    (code : List Instr) (routines : Standing bl links code) (around : Around) (r : Y.Reference) (p : ℕ)
    (start : Y.Value) (limit : Option Y.Number) (step : Y.Number) (condition : Option Y.Bit) (body : Y.Stmts)
    (line : ℕ) → IsProvedStart block types start → Counts bl links code r p → IsProvedNumberIf block types limit
    → IsProvedNumber block types step → IsProvedBitIf block types condition → bl.taken.words + 3 ≤ bl.words
    → bl.taken.words + 3 + value_words start ≤ bl.words + spare bl.taken
    → bl.taken.words + 3 + number_if limit ≤ bl.words + spare bl.taken
    → bl.taken.words + 3 + number_words step ≤ bl.words + spare bl.taken
    → bl.taken.words + 2 + bit_if condition ≤ bl.words + spare bl.taken → line < 2 ^ 31
    → Does (turning bl) links code around.turns (stmts_code e (in_turns bl.taken) body) (M.list around body)
    → Does bl links code around.turns (stmt_code e bl.taken
    (Y.DoCount (Y.NumberCounter p r) start limit step condition body line))
    (M.statement around (Y.DoCount (Y.NumberCounter p r) start limit step condition body line))
start_does bl links code routines around r p (Y.NumberValue precision x) limit step condition body line is counts isl
    iss isc low room rooml rooms roomc fits inner =
    let most = le-max_right 1 (number_words x) in
    count_does bl links code routines around r p (Y.NumberValue precision x) _ _ limit step condition body line
    (number_starts bl links code routines (at_line around line) r p precision x is low (omega (arith, room, most)))
    counts isl iss isc low rooml rooms roomc fits inner
start_does bl links code routines around r p (Y.BitValue x) limit step condition body line is counts isl iss isc low
    room rooml rooms roomc fits inner =
    let most = le-max_right 1 (bit_words x) in
    count_does bl links code routines around r p (Y.BitValue x) _ _ limit step condition body line
    (bit_starts bl links code routines (at_line around line) r p x is low (omega (arith, room, most))) counts isl iss
    isc low rooml rooms roomc fits inner
start_does bl links code routines around r p (Y.TextValue x) limit step condition body line is counts isl iss isc low
    room rooml rooms roomc fits inner =
    count_does bl links code routines around r p (Y.TextValue x) _ _ limit step condition body line
    (text_starts bl links code routines (at_line around line) r p x is room) counts isl iss isc low rooml rooms roomc
    fits inner
start_does bl links code routines around r p _ limit step condition body line is counts isl iss isc low room rooml
    rooms roomc fits inner = absurd is

-- what is assigned to may count
assigned_counts : {e : Environment} {block : Names} {types : Types} (bl : Block e block types) (links : Links)
    (code : List Instr) (routines : Standing bl links code) (r : Y.Reference) (p : ℕ)
    → IsAssigned block types (Y.FixedLeaf p) r → bl.taken.words + 3 + reference_words r ≤ bl.words + spare bl.taken
    → Counts bl links code r p
assigned_counts {e} {block} {types} bl links code routines r p target room =
    record { takes = by_part target.0; reads = assigned_read block types p r target; room = room }
  where
    by_part : IsPart block types (Y.FixedLeaf p) r → Takes (turning bl) links code r (Y.FixedLeaf p)
    by_part (inl o) =
        subst (λ q. Takes (turning bl) links code q (Y.FixedLeaf p)) (sym o.is)
        (scalar_takes (turning bl) links code o.index o.declared tt (omega (arith, room)))
    by_part (inr o) =
        let xs = Y.NumberThen o.first o.rest in
        let are : AreProvedNumbers block types xs = subst (AreSubscripts block types) o.is target.1 in
        let most = le-max_right 0 (0 + subscripts_words xs) in
        let same = ap reference_words o.is in
        subst (λ q. Takes (turning bl) links code q (Y.FixedLeaf p)) (sym o.is)
        (element_takes (turning bl) links code (standing_turning routines) o.index o.bound o.bounds o.first o.rest (o.declared, tt) o.many are (omega (arith, room, most, same)))

pub counted_does : {e : Environment} {block : Names} {types : Types} (bl : Block e block types) (links : Links)
    (code : List Instr) (routines : Standing bl links code) (around : Around) (r : Y.Reference) (precision : ℕ)
    (start : Y.Value) (limit : Option Y.Number) (step : Y.Number) (condition : Option Y.Bit) (body : Y.Stmts)
    (line : ℕ) → IsAssigned block types (Y.FixedLeaf precision) r → bl.taken.words + 3 ≤ bl.words
    → bl.taken.words + 3 + reference_words r ≤ bl.words + spare bl.taken → IsProvedStart block types start
    → IsProvedNumberIf block types limit → IsProvedNumber block types step → IsProvedBitIf block types condition
    → bl.taken.words + 3 + value_words start ≤ bl.words + spare bl.taken
    → bl.taken.words + 3 + number_if limit ≤ bl.words + spare bl.taken
    → bl.taken.words + 3 + number_words step ≤ bl.words + spare bl.taken
    → bl.taken.words + 2 + bit_if condition ≤ bl.words + spare bl.taken → line < 2 ^ 31
    → Does (turning bl) links code around.turns (stmts_code e (in_turns bl.taken) body) (M.list around body)
    → Does bl links code around.turns (stmt_code e bl.taken
    (Y.DoCount (Y.NumberCounter precision r) start limit step condition body line))
    (M.statement around (Y.DoCount (Y.NumberCounter precision r) start limit step condition body line))
counted_does bl links code routines around r precision start limit step condition body line target low some is isl iss
    isc room rooml rooms roomc fits inner =
    start_does bl links code routines around r precision start limit step condition body line is
    (assigned_counts bl links code routines r precision target some) isl iss isc low room rooml rooms roomc fits inner

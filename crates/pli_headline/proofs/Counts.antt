-- The turns of DO with a variable or an element that counts, each of which begins with an assignment and an act; before them limit and
-- step come to wait in words.
use Rattle.std.proofs.Common.{◌≡◌, ℕ, zero, suc, ◌+◌, ◌^◌, ◌<◌, ◌≤◌, List, [], ◌∷◌, ◌++◌, Option, None, Some, Bool, false, refl, sym, ap, ◌∙◌, subst, arith}
use Rattle.std.specs.Prelude.{ℤ, ◌+ℤ◌, cond, ◌==◌}
use Rattle.std.proofs.lemmas.Bool.Decides.{nat_tests}
use Rattle.std.proofs.lemmas.List.{append_assoc}
use Rattle.rv_meaning.specs.declared.instr.Instr.{Instr}
use Rattle.rv_meaning.specs.Words.{word}
use Rattle.pli_typing.specs.TypedTree as Y
use Rattle.pli_meaning.specs.World.{counted}
use Rattle.pli_meaning.specs.BasicValues.{BasicValue, BasicNumber}
use Rattle.pli_meaning.specs.Numbers.{checked}
use Rattle.pli_meaning.specs.StorageState.{State, with_world}
use Rattle.pli_meaning.specs.Control.{Label, Meaning, act, give, stuck, choose, repeated_while, ◌>>=◌, ◌>>◌}
use Rattle.pli_meaning.specs.Raising as R
use Rattle.pli_meaning.specs.Raising.{Around, at_line}
use Rattle.pli_meaning.specs.Evaluating as V
use Rattle.pli_meaning.specs.Executing as M
use Rattle.pli_serving.specs.ServiceState.{Services}
use Rattle.pli_coding.specs.Registers.{frame_register, a0, a1, u1}
use Rattle.pli_coding.specs.Assembly.{JumpBack, Code, size_of}
use Rattle.pli_coding.specs.Instructions.{small, number, move, load_word, store_word, service}
use Rattle.pli_coding.specs.Allocating.{act_code}
use Rattle.pli_coding.specs.Arithmetic.{sum_code, fitted_code}
use Rattle.pli_coding.specs.Environments.{Environment, Taken}
use Rattle.pli_coding.specs.Expressions.{number_code}
use Rattle.pli_coding.specs.Storing.{word_stored}
use Rattle.pli_coding.specs.Frames.{words_place}
use Rattle.pli_coding.specs.Statements.{constant_step, step_place, in_turns, before_turns, limit_code, step_kept}
use Rattle.pli_coding.specs.Statements.{step_code, limit_kept, while_kept, step_added, stepped_code}
use Rattle.pli_coding.specs.Statements.{turn_of, words_behind_condition, words_behind_limit, words_back, turns_code}
use Rattle.pli_coding.specs.Linking.{Links}
use Rattle.temporary_bounds.specs.WordBounds.{number_words, reference_words, number_if, bit_if}
use Rattle.temporary_bounds.specs.Spare.{spare}
use Rattle.temporary_bounds.proofs.Takes.{none_spare}
use Rattle.pli_headline.specs.ProvedSoFar.{Names, Types, IsProvedNumber, IsProvedNumberIf, IsProvedBitIf}
use Rattle.pli_headline.proofs.Storages.{storage}
use Rattle.run_steps.specs.Engine.{Base, address}
use Rattle.run_steps.proofs.Linking.{size_append}
use Rattle.run_steps.specs.Items.{Linked, At}
use Rattle.run_steps.proofs.Items.{straight}
use Rattle.run_steps.specs.Numbers.{IsWide}
use Rattle.run_steps.proofs.Numbers.{word_small}
use Rattle.run_steps.specs.Bodies.{Known}
use Rattle.run_steps.proofs.Jumps.{front_of, back_of, linked_at}
use Rattle.run_steps.specs.Temporaries.{Stays, put, nothing}
use Rattle.run_steps.proofs.Temporaries.{stays_same, stays_then, put_other, put_same}
use Rattle.pli_headline.proofs.Serving.{Serving}
use Rattle.pli_headline.proofs.Acts.{acted, act_from}
use Rattle.pli_headline.proofs.Operators.{valued, Gone, sum_piece, sum_zero}
use Rattle.pli_headline.proofs.ConstantSums.{constant_piece}
use Rattle.pli_headline.proofs.ConstantSteps.{constant_means}
use Rattle.pli_headline.proofs.Expressions.{number_does}
use Rattle.pli_headline.proofs.Scalars.{Fits, Values}
use Rattle.pli_headline.proofs.Precisions.{fitted_piece}
use Rattle.pli_headline.proofs.Targets.{Takes}
use Rattle.pli_headline.proofs.Statements.{Standing, Block, AllHold, counted_all, Behind, Enough, further, Does}
use Rattle.pli_headline.proofs.Ifs.{setting}
use Rattle.pli_headline.proofs.Waiting.{kept_piece, read_piece, stays_fewer, stays_kept}
use Rattle.pli_headline.proofs.Credits.{later_closed, comes_later, idle_closed, comes_known, IsUnpaused, assigned_unpaused}
use Rattle.pli_headline.proofs.Counters.{line_code, on_line, line_piece}
use Rattle.pli_headline.proofs.Limits.{StepWaits, step_stays}
use Rattle.pli_headline.proofs.Turnings.{LimitWaits, limit_size, condition_size, within_piece, condition_piece}
use Rattle.pli_headline.proofs.Loops.{back_piece}
use Rattle.pli_headline.proofs.Since.{since_closed, comes_since}
use Rattle.run_steps.specs.Reach.{Family, cost, Aims, Comes, Closed, before, reached}
use Rattle.run_steps.proofs.Reach.{before_closed, comes_on, onward, reached_holds}
use Rattle.pli_headline.proofs.Evaluations.{Evaluates, Kind, number_kind}

-- the block while limit and step wait
abbrev pub turning : {e : Environment} {block : Names} {types : Types} → Block e block types → Block e block types
turning bl =
    record {
      ground = bl.ground;
      words = bl.words;
      taken = in_turns bl.taken;
      labels = bl.labels;
      base = bl.base;
      within = bl.within;
      words_are = bl.words_are;
      same = bl.same;
      temps = bl.temps;
      alike = bl.alike;
      declared = bl.declared;
      reach = bl.reach;
      named = bl.named;
      lower = bl.lower;
      bases = bl.bases;
      reaches = bl.reaches;
      inside = bl.inside;
      places = bl.places;
      reads = bl.reads;
      writes = bl.writes;
      held = bl.held;
      frames = bl.frames;
      serials = bl.serials;
      bottom = bl.bottom;
      depths = bl.depths;
      shallow = bl.shallow;
      owners = bl.owners;
      first_owner = bl.first_owner;
      stack = bl.stack;
      alone = bl.alone;
      lead = bl.lead;
      leads = bl.leads;
      ends = bl.ends;
      sized = bl.sized;
      own = bl.own;
      levels = bl.levels;
      level_room = bl.level_room;
      outermost_level = bl.outermost_level;
      displays = bl.displays;
      leveled = bl.leveled;
      texts = bl.texts;
      arrays = bl.arrays;
      text_arrays = bl.text_arrays;
      array_names = bl.array_names;
      outer = bl.outer;
      enclosing = bl.enclosing;
      seen = bl.seen;
    }

pub standing_turning : {e : Environment} {block : Names} {types : Types} {bl : Block e block types} {links : Links} {code : List Instr} → Standing bl links code → Standing (turning bl) links code
standing_turning s = record { raises = s.raises; constants = s.constants; filled = s.filled; known = s.known }

-- a jump out of it leaves fewer words that wait
turning_enough : {e : Environment} {block : Names} {types : Types} (bl : Block e block types) {links : Links} {k turns i : ℕ} {h t : ℕ → ℕ} {acts : ℕ} {jumped : ℕ → Family → Services → ℕ → Label → State → Type 0} {returned : ℕ → Family → Services → Option BasicValue → State → Type 0} → Enough bl links k turns i h t acts jumped returned → Enough (turning bl) links k turns i h t acts jumped returned
turning_enough bl more =
    record {
      enough = more.enough;
      later = more.later;
      jumps = λ label among once.
          let o = more.jumps label among once in
          record {
            at = o.at;
            place = o.place;
            near = o.near;
            later = o.later;
            lands = λ s v line n h' t' f serving all stays acted' at'. o.lands s v line n h' t' f serving all (stays_fewer 2 stays) acted' at';
          };
      outs = more.outs;
      returns = more.returns;
      own = more.own;
      homes = more.homes;
    }

-- ---- the next value

-- a left operand in u1
abbrev lefted : ℕ → Base → List (ℕ × ℕ)
lefted x b = (6, x) ∷ []

-- the step is added to the value in a0
added_piece : {links : Links} {code : List Instr} {i : ℕ} {v : Services} {h t : ℕ → ℕ} {s : State} {aims :
    Aims ℤ} {e : Environment} {block : Names} {types : Types} (bl : Block e block types) (routines :
    Standing bl links code) (around : Around) (fixed : Option ℤ) (step z : ℤ) (closed : Closed code aims) (n :
    Values) (f : Family) (k : ℕ) → IsWide z → IsWide step → StepWaits fixed step t (bl.taken.words + 1)
    → bl.taken.words + 3 ≤ bl.words → Linked links code i (step_added bl.taken fixed) → Serving k s v around.line
    → ((b : Base) → At b i (Known (bl.ground n) v h t (valued (word z)) b) (f b))
    → Gone code (bl.ground n) h t v s (i + size_of (step_added bl.taken fixed)) aims
    → Comes code i f v aims (R.value_of around (checked 31 (z +ℤ step)) k s)
added_piece {i = i} {v = v} {h = h} {t = t} {s = s} {aims = aims} bl routines around None step z closed n f k wz ws
    at_step room l serving at gone =
    let taken = in_turns bl.taken in
    let m = move u1 a0 ∷ [] in
    let c = load_word a0 frame_register (step_place bl.taken) in
    let d = sum_code taken in
    let l4 = back_of m (c ++ d) l in
    let size = size_append c d in
    let place : i + 1 + size_of c + size_of d ≡ i + size_of (m ++ (c ++ d)) = omega (arith, size) in
    let w = bl.words_are n in
    onward closed (straight i f v v (λ b. Known (bl.ground n) v h t (lefted (word z)) b) (front_of m (c ++ d) l)
    (omega arith) (λ b. (at b).pc)
    (λ b. let o = (at b).holds in record {
      body = record {
        services = o.body.services;
        registers = o.body.registers;
        bytes = o.body.bytes;
        memory =
            o.body.memory;
      };
      regs = (sum_zero _ (word z) o.regs.0 (word_small z wz), tt);
    }))
    (λ f3 at3.
    onward closed (read_piece (bl.temps n) (i + 1) f3 a0 (bl.taken.words + 1) (word step) (omega (arith, room, w))
    (word_small step ws) at_step (record {
      reserved_stay = λ y u. refl;
      known_stay = λ b y u q. q;
      set =
          λ y u. refl;
    }) (record { reserved_stay = λ y u. refl; known_stay = λ b y u q. q; set = λ y u. refl })
    (front_of c d l4) at3)
    (λ f4 at4.
    sum_piece closed routines.raises (bl.temps n) f4 around taken z step k wz ws
    (λ none. let z = none_spare taken none in omega (arith, z, room, w))
    (back_of c d l4) serving
    (λ b. let o =
    at4 b in record {
      pc = o.pc;
      holds = record { body = o.holds.body; regs = (o.holds.regs.1.0, (o.holds.regs.0, tt)) };
    })
    (λ z' f5 w5 at5. subst (λ q. aims.done q f5 v z' s) (sym place)
    (gone z' f5 w5 (λ b. record { pc = (at5 b).pc ∙ ap (address b) place; holds = (at5 b).holds })))))
added_piece {code = code} {i = i} {v = v} {s = s} {aims = aims} bl routines around (Some c) step z closed n f k wz ws
    at_step room l serving at gone =
    let w = bl.words_are n in
    subst (λ q. Comes code i f v aims (R.value_of around (checked 31 (z +ℤ q)) k s)) (sym at_step)
    (constant_piece closed routines.raises (bl.temps n) f around (in_turns bl.taken) z c k wz
    (subst IsWide at_step ws) (λ none. let z = none_spare (in_turns bl.taken) none in omega (arith, z, room, w)) l
    serving at gone)

pub stepping_piece : {links : Links} {code : List Instr} {i : ℕ} {v : Services} {h t : ℕ → ℕ} {s : State} {aims :
    Aims (Unit {0})} {e : Environment} {block : Names} {types : Types} (bl : Block e block types) (routines :
    Standing bl links code) (around : Around) (line : ℕ) (r : Y.Reference) (p : ℕ) (fixed : Option ℤ) (step :
    ℤ) (closed : Closed code aims) (n : Values) (f : Family) (old k : ℕ) → line < 2 ^ 31 → p ≤ 31
    → IsProvedNumber block types (Y.NumberIn r) → IsWide step → StepWaits fixed step t (bl.taken.words + 1)
    → bl.taken.words + 3 ≤ bl.words
    → bl.taken.words + 3 + reference_words r ≤ bl.words + spare bl.taken
    → Linked links code i (stepped_code e bl.taken (Y.NumberCounter p r) fixed line) → Serving k s v old
    → AllHold bl.frames bl.serials (storage v) (e.level ∷ bl.depths) s block types n
    → ((b : Base) → At b i (Known (bl.ground n) v h t nothing b) (f b))
    → ((z : ℤ) (f' : Family) (h' t' : ℕ → ℕ) → Fits (Y.FixedLeaf p) z
    → IsUnpaused (M.assigned (at_line around line) r (BasicNumber z) k s) → Stays (in_turns bl.taken) h t h' t'
    → Serving k s (on_line line v) line
    → ((b : Base)
    → At b (i + size_of (stepped_code e bl.taken (Y.NumberCounter p r) fixed line))
    (Known (bl.ground n) (on_line line v) h' t' (valued (word z)) b) (f' b))
    → Comes code (i + size_of (stepped_code e bl.taken (Y.NumberCounter p r) fixed line)) f' (on_line line v) aims
    (M.assigned (at_line around line) r (BasicNumber z) k s))
    → Comes code i f v aims (M.stepped (at_line around line) (Y.NumberCounter p r) step k s)
unfolding M.stepped M.counter_number M.counter_value V.number ◌>>=◌ give
stepping_piece {links = links} {code = code} {i = i} {v = v} {h = h} {t = t} {s = s} {aims = aims} {e = e} {block =
    block} {types = types} bl routines around line r p fixed step closed n f old k fits few mine ws at_step low room l
    serving all at goal =
    let here = at_line around line in
    let taken = in_turns bl.taken in
    let first = number a0 line in
    let second = small a1 1 ∷ service 1 in
    let a = number_code e taken (Y.NumberIn r) in
    let d = step_added bl.taken fixed in
    let q = fitted_code taken p in
    let rest = a ++ (d ++ q) in
    let l1 = subst (Linked links code i) (sym (append_assoc first second rest)) l in
    let l2 = back_of (first ++ second) rest l1 in
    let l5 = back_of a (d ++ q) l2 in
    let e0 = ap size_of (append_assoc first second rest) in
    let e1 = size_append (first ++ second) rest in
    let e2 = size_append a (d ++ q) in
    let e4 = size_append d q in
    let j1 = i + size_of (line_code line) in
    let there : j1 + size_of a + size_of d + size_of q
    ≡ i + size_of (stepped_code e bl.taken (Y.NumberCounter p r) fixed line) = omega (arith, e0, e1, e2, e4) in
    let w = bl.words_are n in
    let v1 = on_line line v in
    let store : BasicValue → Meaning (Unit {0}) = λ u. M.assigned here r u in
    let as_value : ℤ → Meaning BasicValue = λ z. give (BasicNumber z) in
    let next2 : ℤ → Meaning (Unit {0}) = λ z. (M.counter_value here (Y.NumberCounter p r) z) >>= store in
    let next1 : ℤ → Meaning (Unit {0}) = λ z. (R.value_of here (checked 31 (z +ℤ step))) >>= next2 in
    line_piece bl n closed f (M.stepped here (Y.NumberCounter p r) step k s) line old k fits (front_of (first ++ second) rest l1) serving at
    (λ f1 serving1 at1.
    let reads = number_does (Y.NumberIn r) {e = e} {around = here} (setting bl routines n all serving1) mine in
    let l' = front_of a (d ++ q) l2 in
    comes_on k (V.number here (Y.NumberIn r) k s) next1
    (comes_known (V.number here (Y.NumberIn r) k s)
    (reads.does (idle_closed (before_closed k next1 closed)) f1 taken (omega (arith, room, w)) l' at1 (λ z f2 h2 t2 wz stays2 at2. tt))
    (λ normal.
    reads.does (before_closed k next1 closed) f1 taken (omega (arith, room, w)) l' at1
    (λ z f2 h2 t2 wz stays2 at2.
    comes_on k (R.value_of here (checked 31 (z +ℤ step)) k s) next2
    (added_piece bl routines here fixed step z (before_closed k next2 closed) n f2 k wz ws
    (step_stays fixed step t t2 (bl.taken.words + 1) (stays2.words (bl.taken.words + 1) (omega arith)) at_step)
    low (front_of d q l5) serving1 at2
    (λ z2 f5 w2 at5.
    comes_on k (M.counter_value here (Y.NumberCounter p r) z2 k s) store
    (comes_on k (R.value_of here (checked p z2) k s) as_value
    (fitted_piece (before_closed k as_value (before_closed k store closed)) routines.raises
    (bl.temps n) f5 here taken p z2 k few w2 (λ none. let z = none_spare taken none in omega (arith, z, room, w))
    (back_of d q l5) serving1 at5
    (λ f6 fits6 at6. record {
      to = λ early.
          subst (λ u. Comes code u f6 v1 aims (M.assigned here r (BasicNumber z2) k s)) (sym there)
          (goal z2 f6 h2 t2 (few, fits6) (assigned_unpaused here r (BasicNumber z2) k s normal) stays2 serving1 (λ b. record { pc = (at6 b).pc ∙ ap (address b) there; holds = (at6 b).holds }));
    })))))))))

-- ---- the turns

-- a variable or an element of the block that counts
pub record Counts {e : Environment} {block : Names} {types : Types} (bl : Block e block types) (links : Links) (code : List Instr) (r : Y.Reference) (p : ℕ) : Type 1 where
  pub takes : Takes (turning bl) links code r (Y.FixedLeaf p)
  pub reads : IsProvedNumber block types (Y.NumberIn r)
  pub room : bl.taken.words + 3 + reference_words r ≤ bl.words + spare bl.taken

-- the code of a turn behind what begins it
abbrev pub turn_rest : {e : Environment} {block : Names} {types : Types} → Block e block types → (r : Y.Reference)
    → (p : ℕ) → Option Y.Number → Option ℤ → Option Y.Bit → (line : ℕ) → Code → Code
turn_rest {e} {block} bl r p limit fixed condition line c =
    let u = turn_of e bl.taken (Y.NumberCounter p r) limit fixed condition line c in
    limit_kept e bl.taken (Y.NumberCounter p r) limit fixed (words_behind_limit u)
    ++ (while_kept e bl.taken condition (words_behind_condition u)
    ++ (c ++ (stepped_code e bl.taken (Y.NumberCounter p r) fixed line ++ JumpBack (words_back u) ∷ [])))

abbrev pub turns_of : {e : Environment} {block : Names} {types : Types} → Block e block types → (r : Y.Reference)
    → (p : ℕ) → Option Y.Number → Option ℤ → Option Y.Bit → (line : ℕ) → Code → Code
turns_of {e} {block} bl r p limit fixed condition line c =
    turns_code (turn_of e bl.taken (Y.NumberCounter p r) limit fixed condition line c)

pub limit_stays : (limit : Option Y.Number) (most : Option ℤ) (t t' : ℕ → ℕ) (j : ℕ) → t' j ≡ t j → LimitWaits limit most t j → LimitWaits limit most t' j
limit_stays None None t t' j e waits = tt
limit_stays None (Some m) t t' j e waits = absurd waits
limit_stays (Some x) None t t' j e waits = absurd waits
limit_stays (Some x) (Some m) t t' j e waits = (waits.0, e ∙ waits.1)

-- from the act of a turn on, with credits enough for it
pub head_piece : {e : Environment} {block : Names} {types : Types} (bl : Block e block types) {links : Links} {code :
    List Instr} (routines : Standing bl links code) (around : Around) (r : Y.Reference) (p : ℕ) (limit :
    Option Y.Number) (most : Option ℤ) (fixed : Option ℤ) (step : ℤ) (condition : Option Y.Bit) (line : ℕ) (c :
    Code) (part : Meaning (Unit {0})) → Counts bl links code r p → IsWide step → IsProvedBitIf block types condition
    → bl.taken.words + 3 ≤ bl.words → bl.taken.words + 2 + bit_if condition ≤ bl.words + spare bl.taken → line < 2 ^ 31
    → Does (turning bl) links code around.turns c part → (turns : ℕ) {i : ℕ} {s : State} {v : Services} {h t :
    ℕ → ℕ} {aims : Aims (Unit {0})} (closed : Closed code aims) (credits old : ℕ) (n : Values) (f : Family) (k : ℕ)
    → k < turns + v.world.acts → credits + size_of (act_code line) ≤ cost code
    → Linked links code i (turns_of bl r p limit fixed condition line c) → LimitWaits limit most t bl.taken.words
    → StepWaits fixed step t (bl.taken.words + 1) → Serving k s v old
    → AllHold bl.frames bl.serials (storage v) (e.level ∷ bl.depths) s block types n
    → ((b : Base) → At b (i + size_of (word_stored e (in_turns bl.taken) r)) (Known (bl.ground n) v h t nothing b)
    (f b)) → Behind bl k h t (i + size_of (turns_of bl r p limit fixed condition line c)) aims
    → Enough bl links k around.turns i h t v.world.acts aims.jumped aims.returned
    → Comes code credits f v aims
    (repeated_while turns (M.turn_due (at_line around line) (Y.NumberCounter p r) most step condition)
    (part >> (M.stepped (at_line around line) (Y.NumberCounter p r) step)) k s)
unfolding repeated_while M.turn_due ◌>>=◌ ◌>>◌ give stuck choose
head_piece bl routines around r p limit most fixed step condition line c part counts ws is room room' fits inner zero
    closed credits old n f k enough paid l waits at_step serving all at goal more =
    absurd (let a = serving.allowed in omega (arith, a, enough))
head_piece {e} {block} {types} bl {links} {code} routines around r p limit most fixed step condition line c part
    counts ws is room room' fits inner (suc turns) {i} {s} {v} {h} {t} {aims} closed credits old n f k enough paid l
    waits at_step serving all at goal more =
    let here = at_line around line in
    let takes = counts.takes in
    let some = counts.room in
    let w = bl.taken.words in
    let st = word_stored e (in_turns bl.taken) r in
    let ac = act_code line in
    let u = turn_of e bl.taken (Y.NumberCounter p r) limit fixed condition line c in
    let lim = limit_kept e bl.taken (Y.NumberCounter p r) limit fixed (words_behind_limit u) in
    let con = while_kept e bl.taken condition (words_behind_condition u) in
    let sp = stepped_code e bl.taken (Y.NumberCounter p r) fixed line in
    let jump = JumpBack (words_back u) ∷ [] in
    let rest = lim ++ (con ++ (c ++ (sp ++ jump))) in
    let lb = front_of (st ++ ac) rest l in
    let ls = front_of st ac lb in
    let la = back_of st ac lb in
    let s0 = size_append st ac in
    let i1 = i + size_of st + size_of ac in
    let begun : i + size_of (st ++ ac) ≡ i1 = omega (arith, s0) in
    let l1 = linked_at i1 rest begun (back_of (st ++ ac) rest l) in
    let l2 = back_of lim (con ++ (c ++ (sp ++ jump))) l1 in
    let l3 = back_of con (c ++ (sp ++ jump)) l2 in
    let l4 = back_of c (sp ++ jump) l3 in
    let s1 = size_append (st ++ ac) rest in
    let s2 = size_append lim (con ++ (c ++ (sp ++ jump))) in
    let s3 = size_append con (c ++ (sp ++ jump)) in
    let s4 = size_append c (sp ++ jump) in
    let s5 = size_append sp jump in
    let b1 = limit_size e bl.taken (Y.NumberCounter p r) limit fixed (words_behind_limit u) 0 in
    let b2 = condition_size e bl.taken condition (words_behind_condition u) 0 in
    let i3 = i1 + size_of lim + size_of con in
    let i5 = i3 + size_of c + size_of sp in
    let end' = i + size_of (turns_of bl r p limit fixed condition line c) in
    let ends : i5 + 2 ≡ end' = omega (arith, s0, s1, s2, s3, s4, s5) in
    let over1 : i1 + size_of lim + words_behind_limit u ≡ end' = omega (arith, s0, s1, s2, s3, s4, s5, b2) in
    let over2 : i3 + words_behind_condition u ≡ end' = omega (arith, s0, s1, s2, s3, s4, s5) in
    let back : i + words_back u ≡ i5 = omega (arith, s0, b1, b2) in
    let turn = words_back u + 2 in
    let again_at : i + turn ≡ i5 + 2 = omega (arith, back) in
    let inside = l.inside in
    let again : Meaning (Unit {0}) = repeated_while turns (M.turn_due here (Y.NumberCounter p r) most step condition) (part >> (M.stepped here (Y.NumberCounter p r) step)) in
    let branch : Bool → Meaning (Unit {0}) = λ met. choose met ((part >> (M.stepped here (Y.NumberCounter p r) step)) >> again) (give tt) in
    let goes : Unit {0} → Meaning (Unit {0}) = λ q. again in
    let steps : Unit {0} → Meaning (Unit {0}) = λ q. M.stepped here (Y.NumberCounter p r) step in
    let conditions : Bool → Meaning Bool = λ within. choose within (M.condition_met here condition) (give false) in
    let tests : Unit {0} → Meaning Bool = λ q. (M.within_limit here (Y.NumberCounter p r) most step) >>= conditions in
    let acts1 = (acted line v).world.acts in
    comes_on k (M.turn_due here (Y.NumberCounter p r) most step condition k s) branch
    (comes_on k (act counted k s) tests
    (act_from (before_closed k tests (before_closed k branch closed)) credits f line old k fits paid la serving at
    (λ f1 serving1 at1.
    let s' = with_world (counted s.world) s in
    let v' = acted line v in
    let all1 : AllHold bl.frames bl.serials (storage v) (e.level ∷ bl.depths) s' block types n = counted_all _ all in
    comes_on k (M.within_limit here (Y.NumberCounter p r) most step k s') conditions
    (within_piece bl routines here r p limit most fixed step (words_behind_limit u)
    (before_closed k conditions (before_closed k branch closed)) n f1 k counts.reads waits ws at_step
    (omega (arith, room)) (omega (arith, some)) (omega (arith, inside, over1))
    (front_of lim (con ++ (c ++ (sp ++ jump))) l1) serving1
    all1 at1 (
      (λ f2 h2 t2 stays2 at2.
          condition_piece bl routines here condition (words_behind_condition u) (before_closed k branch closed) n f2 k is room' (omega (arith, inside, over2)) (front_of con (c ++ (sp ++ jump)) l2) serving1 all1 at2 (
            (λ f3 h3 t3 stays3 at3.
                comes_on k ((part >> (M.stepped here (Y.NumberCounter p r) step)) k s') goes
                (comes_on k (part k s') steps
                (comes_since (part k s')
                (inner.does (since_closed acts1 (before_closed k steps (before_closed k goes closed))) line n f3 k (front_of c (sp ++ jump) l3) serving1 all1 at3
                (λ s4' v4 line4 n4 h4 t4 f4 serving4 all4 stays4 at4 grown.
                let stays04 = stays_then stays2 (stays_then stays3 stays4) in
                stepping_piece bl routines around line r p fixed step (before_closed k goes closed) n4 f4 line4 k fits
                (takes.old s4' (storage v4) n4 all4).1.0 counts.reads ws
                (step_stays fixed step t t4 (w + 1) (stays04.words (w + 1) (omega arith)) at_step) room some
                (front_of sp jump l4) serving4 all4 at4
                (λ z f5 h5 t5 wz unpaused stays5 serving5 at5.
                onward (before_closed k goes closed) (back_piece i5 f5 (words_back u) i back (record { reserved_stay = λ y x. refl; known_stay = λ b y x q. q; set = λ y x. refl }) (back_of sp jump l4) at5)
                (λ f6 at6.
                subst (λ q. Comes code q f6 (on_line line v4) (before code aims k goes) (M.assigned here r (BasicNumber z) k s4')) again_at
                (comes_later turn (M.assigned here r (BasicNumber z) k s4') unpaused
                (takes.does (later_closed turn (before_closed k goes closed)) f6 here z n4 k wz ls serving5 all4 at6
                (λ s7 n7 h7 t7 f7 serving7 all7 stays7 at7.
                let stays07 = stays_then stays04 (stays_then stays5 stays7) in
                head_piece bl routines around r p limit most fixed step condition line c part counts ws is room room'
                fits inner turns closed (i + size_of st + turn) line n7 f7 k (omega (arith, enough, grown))
                (omega (arith, inside, ends, s0, s1, again_at)) l
                (limit_stays limit most t t7 w (stays07.words w (omega arith)) waits)
                (step_stays fixed step t t7 (w + 1) (stays07.words (w + 1) (omega arith)) at_step)
                serving7 all7 at7
                (λ s8 v8 line8 n8 h8 t8 f8 serving8 all8 stays8 at8. goal s8 v8 line8 n8 h8 t8 f8 serving8 all8 (stays_then (stays_fewer 2 stays07) stays8) at8)
                (further more (omega arith) (omega (arith, grown)) (stays_fewer 2 stays07))))))))
                (turning_enough bl (further more (omega arith) (omega arith) (stays_fewer 2 (stays_then stays2 stays3)))))))),
            (λ f3 h3 t3 stays3 at3.
                record {
                  to = λ early.
                      subst (λ q. aims.done q f3 v' tt s') (sym over2)
                      (goal s' v' line n h3 t3 f3 serving1 all1 (stays_fewer 2 (stays_then stays2 stays3)) (λ b. record { pc = (at3 b).pc ∙ ap (address b) over2; holds = (at3 b).holds }));
                }),
          )),
      (λ f2 h2 t2 stays2 at2.
          record {
            to = λ early. record {
              to = λ early.
                  subst (λ q. aims.done q f2 v' tt s') (sym over1)
                  (goal s' v' line n h2 t2 f2 serving1 all1 (stays_fewer 2 stays2) (λ b. record { pc = (at2 b).pc ∙ ap (address b) over1; holds = (at2 b).holds }));
            };
          }),
    )))))

-- ---- what waits

put_apart : (xs : ℕ → ℕ) (k x i : ℕ) → (i == k) ≡ false → put xs k x i ≡ xs i
put_apart xs k x i e = ap (λ u. cond u x (xs i)) e

other_place : (i k : ℕ) → k < i → (i == k) ≡ false
other_place i k h = grind (arith, nat_tests)

-- a value is evaluated while three words may wait, and kept in one of them
pub word_kept : {X : Type 0} (kind : Kind X) {words : ℕ} {part : Taken → Code} {meaning : Meaning X} {links : Links}
    {code : List Instr} {i : ℕ} {v : Services} {h t : ℕ → ℕ} {s : State} {aims : Aims X} {e : Environment}
    {block : Names} {types : Types} (bl : Block e block types) (n : Values) (j : ℕ) (closed : Closed code aims)
    (f : Family) (k : ℕ) → Evaluates kind links code (bl.ground n) v s k words part meaning
    → bl.taken.words + 3 + words ≤ bl.words + spare bl.taken → j < bl.words
    → Linked links code i (part (before_turns bl.taken) ++ store_word frame_register a0 (words_place j 1))
    → ((b : Base) → At b i (Known (bl.ground n) v h t nothing b) (f b))
    → ((x : X) (f' : Family) (h' t' : ℕ → ℕ) → kind.Fits x → Stays (before_turns bl.taken) h t h' t'
    → ((b : Base) → At b (i + size_of (part (before_turns bl.taken) ++ store_word frame_register a0 (words_place j 1)))
    (Known (bl.ground n) v h' (put t' j (kind.word_of x)) nothing b) (f' b))
    → aims.done (i + size_of (part (before_turns bl.taken) ++ store_word frame_register a0 (words_place j 1))) f' v x
    s) → Comes code i f v aims (meaning k s)
word_kept kind {part = part} {i = i} {v = v} {s = s} {aims = aims} bl n j closed f k x room inside l at goal =
    let a = part (before_turns bl.taken) in
    let c = store_word frame_register a0 (words_place j 1) in
    let size = size_append a c in
    let place : i + size_of a + size_of c ≡ i + size_of (a ++ c) = omega (arith, size) in
    let w = bl.words_are n in
    x.does closed f (before_turns bl.taken) (omega (arith, room, w)) (front_of a c l) at
    (λ z f1 h1 t1 fits stays at1.
    let r = kept_piece (bl.temps n) (i + size_of a) f1 j (kind.word_of z) (omega (arith, inside, w)) (kind.small' z fits) (back_of a c l) at1 in
    closed.done r z s
    (subst (λ u. aims.done u (reached r) v z s) (sym place)
    (goal z (reached r) h1 t1 fits stays (λ b. record { pc = (reached_holds r b).pc ∙ ap (address b) place; holds = (reached_holds r b).holds }))))

number_kept : {links : Links} {code : List Instr} {i : ℕ} {v : Services} {h t : ℕ → ℕ} {s : State} {aims : Aims ℤ}
    {e : Environment} {block : Names} {types : Types} (bl : Block e block types) (routines : Standing bl links code)
    (around : Around) (x : Y.Number) (n : Values) (j : ℕ) (closed : Closed code aims) (f : Family) (k : ℕ)
    → IsProvedNumber block types x → bl.taken.words + 3 + number_words x ≤ bl.words + spare bl.taken → j < bl.words
    → Linked links code i (number_code e (before_turns bl.taken) x ++ store_word frame_register a0 (words_place j 1))
    → Serving k s v around.line → AllHold bl.frames bl.serials (storage v) (e.level ∷ bl.depths) s block types n
    → ((b : Base) → At b i (Known (bl.ground n) v h t nothing b) (f b))
    → ((z : ℤ) (f' : Family) (h' t' : ℕ → ℕ) → IsWide z → Stays (before_turns bl.taken) h t h' t'
    → ((b : Base) → At b (i + size_of (number_code e (before_turns bl.taken) x ++ store_word frame_register a0
    (words_place j 1))) (Known (bl.ground n) v h' (put t' j (word z)) nothing b) (f' b))
    → aims.done (i + size_of (number_code e (before_turns bl.taken) x ++ store_word frame_register a0
    (words_place j 1))) f' v z s) → Comes code i f v aims (V.number around x k s)
number_kept {e = e} bl routines around x n j closed f k is room inside l serving all at goal =
    word_kept number_kind bl n j closed f k (number_does x {e = e} {around = around} (setting bl routines n all serving) is) room inside l at goal

limit_kept_piece : {links : Links} {code : List Instr} {i : ℕ} {v : Services} {h t : ℕ → ℕ} {s : State}
    {aims : Aims (Option ℤ)} {e : Environment} {block : Names} {types : Types} (bl : Block e block types)
    (routines : Standing bl links code) (around : Around) (limit : Option Y.Number) (n : Values)
    (closed : Closed code aims) (f : Family) (k : ℕ) → IsProvedNumberIf block types limit
    → bl.taken.words + 3 ≤ bl.words → bl.taken.words + 3 + number_if limit ≤ bl.words + spare bl.taken
    → Linked links code i (limit_code e bl.taken limit) → Serving k s v around.line
    → AllHold bl.frames bl.serials (storage v) (e.level ∷ bl.depths) s block types n
    → ((b : Base) → At b i (Known (bl.ground n) v h t nothing b) (f b))
    → ((most : Option ℤ) (f' : Family) (h' t' : ℕ → ℕ) → LimitWaits limit most t' bl.taken.words
    → Stays bl.taken h t h' t' → t' (bl.taken.words + 2) ≡ t (bl.taken.words + 2)
    → ((b : Base) → At b (i + size_of (limit_code e bl.taken limit)) (Known (bl.ground n) v h' t' nothing b) (f' b))
    → aims.done (i + size_of (limit_code e bl.taken limit)) f' v most s)
    → Comes code i f v aims (M.limit_of around limit k s)
unfolding M.limit_of ◌>>=◌ give
limit_kept_piece {i = i} {v = v} {h = h} {t = t} {s = s}
    {aims = aims} bl routines around None n closed f k is low room l serving all at goal =
    let same : i ≡ i + 0 = omega arith in
    record {
      to = λ early. subst (λ u. aims.done u f v None s) (sym same) (goal None f h t tt
          (stays_same bl.taken h t) refl (λ b. record { pc = (at b).pc ∙ ap (address b) same; holds = (at b).holds }));
    }
limit_kept_piece {h = h} {t = t} {s = s} bl routines around (Some x) n closed f k is low room l serving all at goal =
    let w = bl.taken.words in
    let next' : ℤ → Meaning (Option ℤ) = λ z. give (Some z) in
    comes_on k (V.number around x k s) next'
    (number_kept bl routines around x n w (before_closed k next' closed) f k is room
    (omega (arith, low)) l serving all at
    (λ z f1 h1 t1 wz stays at1.
    record {
      to = λ early.
          goal (Some z) f1 h1 (put t1 w (word z)) (wz, put_same t1 w (word z)) (stays_then (stays_fewer 3 stays) (stays_kept bl.taken h1 t1 w (word z) (omega arith)))
          (put_apart t1 w (word z) (w + 2) (other_place (w + 2) w (omega arith)) ∙ stays.words (w + 2) (omega arith)) at1;
    }))

-- the step is evaluated, and waits, unless it is a constant
step_kept_piece : {links : Links} {code : List Instr} {i : ℕ} {v : Services} {h t : ℕ → ℕ} {s : State} {aims :
    Aims ℤ} {e : Environment} {block : Names} {types : Types} (bl : Block e block types) (routines :
    Standing bl links code) (around : Around) (step : Y.Number) (fixed : Option ℤ) (n : Values) (closed :
    Closed code aims) (f : Family) (k : ℕ) → constant_step step ≡ fixed → IsProvedNumber block types step
    → bl.taken.words + 3 ≤ bl.words → bl.taken.words + 3 + number_words step ≤ bl.words + spare bl.taken
    → Linked links code i (step_kept e bl.taken step fixed)
    → Serving k s v around.line → AllHold bl.frames bl.serials (storage v) (e.level ∷ bl.depths) s block types n
    → ((b : Base) → At b i (Known (bl.ground n) v h t nothing b) (f b))
    → ((by : ℤ) (f' : Family) (h' t' : ℕ → ℕ) → IsWide by → StepWaits fixed by t' (bl.taken.words + 1)
    → t' bl.taken.words ≡ t bl.taken.words → t' (bl.taken.words + 2) ≡ t (bl.taken.words + 2)
    → Stays bl.taken h t h' t'
    → ((b : Base) → At b (i + size_of (step_kept e bl.taken step fixed)) (Known (bl.ground n) v h' t' nothing b)
    (f' b)) → aims.done (i + size_of (step_kept e bl.taken step fixed)) f' v by s)
    → Comes code i f v aims (V.number around step k s)
unfolding give
step_kept_piece bl routines around step None n closed f k is iss low room l serving all at goal =
    let w = bl.taken.words in
    number_kept bl routines around step n (w + 1) closed f k iss room (omega (arith, low)) l serving all at
    (λ by f2 h2 t2 wide stays2 at2.
    goal by f2 h2 (put t2 (w + 1) (word by)) wide (put_same t2 (w + 1) (word by))
    (put_other t2 (w + 1) (word by) w (omega arith) ∙ stays2.words w (omega arith))
    (put_apart t2 (w + 1) (word by) (w + 2) (other_place (w + 2) (w + 1) (omega arith))
    ∙ stays2.words (w + 2) (omega arith))
    (stays_then (stays_fewer 3 stays2) (stays_kept bl.taken h2 t2 (w + 1) (word by) (omega arith))) at2)
step_kept_piece {code = code} {i = i} {v = v} {h = h} {t = t} {s = s} {aims = aims} {block = block} {types =
    types} bl routines around step (Some z) n closed f k is iss low room l serving all at goal =
    let constant = constant_means block types step z iss is in
    let same : i ≡ i + 0 = omega arith in
    subst (Comes code i f v aims) (sym (constant.means around k s))
    (record {
      to = λ early.
          subst (λ u. aims.done u f v z s) (sym same)
          (goal z f h t constant.wide refl refl refl (stays_same bl.taken h t) (λ b. record {
            pc =
                (at b).pc ∙ ap (address b) same;
            holds = (at b).holds;
          }));
    })

-- limit and step are evaluated, and wait in their words
pub limits_piece : {links : Links} {code : List Instr} {i : ℕ} {v : Services} {h t : ℕ → ℕ} {s : State} {aims :
    Aims (Unit {0})} {e : Environment} {block : Names} {types : Types} (bl : Block e block types) (routines :
    Standing bl links code) (around : Around) (limit : Option Y.Number) (step : Y.Number) (n : Values) (next' :
    Option ℤ → ℤ → Meaning (Unit {0})) (closed : Closed code aims) (f : Family) (k : ℕ)
    → IsProvedNumberIf block types limit → IsProvedNumber block types step
    → bl.taken.words + 3 ≤ bl.words → bl.taken.words + 3 + number_if limit ≤ bl.words + spare bl.taken
    → bl.taken.words + 3 + number_words step ≤ bl.words + spare bl.taken
    → Linked links code i (limit_code e bl.taken limit)
    → Linked links code (i + size_of (limit_code e bl.taken limit)) (step_code e bl.taken step)
    → Serving k s v around.line → AllHold bl.frames bl.serials (storage v) (e.level ∷ bl.depths) s block types n
    → ((b : Base) → At b i (Known (bl.ground n) v h t nothing b) (f b))
    → ((most : Option ℤ) (by : ℤ) (f' : Family) (h' t' : ℕ → ℕ) → IsWide by → LimitWaits limit most t' bl.taken.words
    → StepWaits (constant_step step) by t' (bl.taken.words + 1) → t' (bl.taken.words + 2) ≡ t (bl.taken.words + 2)
    → Stays bl.taken h t h' t'
    → ((b : Base) → At b (i + size_of (limit_code e bl.taken limit) + size_of (step_code e bl.taken step))
    (Known (bl.ground n) v h' t' nothing b) (f' b))
    → Comes code (i + size_of (limit_code e bl.taken limit) + size_of (step_code e bl.taken step)) f' v aims
    (next' most by k s))
    → Comes code i f v aims
    (((M.limit_of around limit) >>= (λ most. (V.number around step) >>= (λ by. next' most by))) k s)
unfolding ◌>>=◌
limits_piece {s = s} bl routines around limit step n next' closed f k isl iss low rooml rooms l1 l2 serving all at
    goal =
    let w = bl.taken.words in
    let steps : Option ℤ → Meaning (Unit {0}) = λ most. (V.number around step) >>= (λ by. next' most by) in
    comes_on k (M.limit_of around limit k s) steps
    (limit_kept_piece bl routines around limit n (before_closed k steps closed) f k isl low rooml l1 serving all at
    (λ most f1 h1 t1 waits stays1 start1 at1.
    comes_on k (V.number around step k s) (λ by. next' most by)
    (step_kept_piece bl routines around step (constant_step step) n (before_closed k (λ by. next' most by) closed) f1
    k refl iss low rooms l2 serving all at1
    (λ by f2 h2 t2 wide kept limit_same start_same stays2 at2.
    goal most by f2 h2 t2 wide (limit_stays limit most t1 t2 w limit_same waits) kept (start_same ∙ start1)
    (stays_then stays1 stays2) at2))))

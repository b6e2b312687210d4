-- A raise while a unit is in force does what it means: the unit runs, and behind its end the raise goes on.
use Rattle.std.proofs.Common.{◌≡◌, inl, inr, ℕ, ◌+◌, ◌^◌, ◌<◌, ◌≤◌, [], ◌++◌, length, None, true, refl, sym, ap, ◌∙◌}
use Rattle.std.proofs.Common.{subst, arith}
use Rattle.std.specs.Prelude.{nat_lt}
use Rattle.pli_language.specs.declared.condition.Condition.{Condition}
use Rattle.pli_language.specs.declared.condition.Condition.TheVariants as C
use Rattle.pli_typing.specs.TypedTree as Y
use Rattle.pli_meaning.specs.Codes.{fixed_overflow_code}
use Rattle.pli_meaning.specs.Control.{Meaning, act, flow_on, ◌>>◌}
use Rattle.pli_meaning.specs.Executing as M
use Rattle.pli_meaning.specs.Raising as R
use Rattle.pli_meaning.specs.Raising.{Around, at_line}
use Rattle.pli_meaning.specs.StorageState.{force, most_activations}
use Rattle.pli_meaning.specs.World.{counted, raising}
use Rattle.pli_coding.specs.Allocating.{act_code}
use Rattle.pli_coding.specs.Arithmetic as A
use Rattle.pli_coding.specs.Arithmetic.{overflow_raised}
use Rattle.pli_coding.specs.Assembly.{Code, size_of}
use Rattle.pli_coding.specs.Environments.{fetch, save}
use Rattle.pli_coding.specs.Registers.{a0}
use Rattle.pli_coding.specs.Statements.{unit_mark}
use Rattle.activation_relation.specs.Entering.{Later}
use Rattle.activation_relation.specs.Layers.{Point, services_of}
use Rattle.activation_relation.proofs.PointSteps.{raised_stands}
use Rattle.activation_relation.proofs.Remaining.{remains_acted}
use Rattle.activation_relation.proofs.Returning.{later_then}
use Rattle.activation_relation.proofs.Serials.{few_made}
use Rattle.run_steps.specs.Items.{Linked}
use Rattle.run_steps.proofs.Jumps.{back_of, front_of, linked_at}
use Rattle.run_steps.proofs.Linking.{size_append}
use Rattle.run_steps.specs.Owing.{owing}
use Rattle.run_steps.proofs.Owing.{comes_owing, owing_closed}
use Rattle.run_steps.specs.Reach.{Aims, Comes, Family, cost, reached}
use Rattle.run_steps.proofs.Reach.{before_closed, comes_on, onward, reach_map, reach_then, reach_with, reached_holds}
use Rattle.run_steps.specs.Temporaries.{nothing}
use Rattle.block_runs.specs.Machines.{AreIn, IsIn}
use Rattle.block_runs.proofs.CallStatements.{comes_map}
use Rattle.block_runs.proofs.PointActs.{act_comes}
use Rattle.block_runs.proofs.PointGrounds.{in_known, known_in, point_frame}
use Rattle.program_runs.specs.Calls.{left_over}
use Rattle.program_runs.specs.Statements.{AreMarked, Block, IsAmong, IsBegun, statement_aims}
use Rattle.program_runs.proofs.Calls.{behind_variables}
use Rattle.program_runs.proofs.JumpsOut.{jumps_repaid, jumps_since}
use Rattle.program_runs.proofs.Lists.{list_does}
use Rattle.program_runs.proofs.Statements.{at_end}
use Rattle.expression_runs.specs.Values.{OverflowComes, Setting, behind, in_registers, word_aims}
use Rattle.expression_runs.proofs.Raises.{raised_at}
use Rattle.expression_runs.proofs.Saving.{fetched_reach, held_after, held_among, held_is_given, held_stays, saved_reach}
use Rattle.expression_runs.proofs.Saving.{size_sum}
use Rattle.expression_runs.proofs.Words.{known_word, word_closed}
use Rattle.begin_runs.specs.BehindLists.{from_point, list_aims}
use Rattle.begin_runs.proofs.Begins.{out_of_all}
use Rattle.unit_runs.specs.Establishing.{unit_of}
use Rattle.unit_runs.specs.Raised.{AreMade, IsRaiseOf, IsUnitKind, IsRaised, Raise, RaisesReturn, Standing, UnitDoes}
use Rattle.unit_runs.specs.Raised.{begin_of, begun_unit, end_index, list_code, list_index, raise_aims, standing_code}
use Rattle.unit_runs.specs.Raised.{unit_beginning, unit_block}
use Rattle.unit_runs.specs.UnitBeginnings.{IsAtUnit}
use Rattle.unit_runs.proofs.UnitBlocks.{Here, IsHere, begun_known, ended_owing, ending_of, first_among, first_begun}
use Rattle.unit_runs.proofs.UnitBlocks.{leaves_by_jump, premises, waiting}
use Rattle.unit_runs.proofs.UnitEntries as U
use Rattle.unit_runs.proofs.UnitMeaning.{behind_raise, comes_returned, unit_body, unit_means, within, within_closed}
use Rattle.unit_runs.proofs.UnitRaises.{Finding, IsFinding, raise_finds}
use Rattle.block_runs.proofs.Early.{comes_early}

-- ---- the point behind the act of a raise

raised_later : (c : Condition) (n : ℕ) (p : Point) → Later p (raised_at c n p)
raised_later c n p =
    record {
      activations = refl;
      layers = refl;
      edits = refl;
      waiting = refl;
      acts = omega arith;
      remains = remains_acted p (raising c n) p.control.line;
    }

pub raised_among :
    {k : Block} {numbers : ℕ → ℕ} {p : Point} (c : Condition) (n : ℕ) → IsAmong k numbers p →
    p.state.world.acts < k.call.surroundings.acts → IsAmong k numbers (raised_at c n p)
raised_among {k} {numbers} {p} c n o less =
    let w = k.call.surroundings in
    let i = o.image in
    record {
      stands = raised_stands w p c n o.stands less;
      image = record { keeper = i.keeper; layout = i.layout; parts = i.parts; even = i.even };
      later = later_then k.first p (raised_at c n p) o.later (raised_later c n p);
      few = o.few;
      entries = o.entries;
      others = o.others;
      words = o.words;
    }

-- ---- the code of the unit

abbrev tail_of : Standing → Code
tail_of x = unit_mark x.unit.head x.unit.head.kind ++ ending_of x

abbrev behind_act : Standing → Code
behind_act x = list_code x ++ tail_of x

abbrev behind_made : Standing → Code
behind_made x = act_code x.unit.head.line ++ behind_act x

abbrev pub behind_beginning : Standing → Code
behind_beginning x = x.variables ++ behind_made x

mark_size : (head : Y.BlockHead) (kind : Y.BlockKind) → IsUnitKind kind → size_of (unit_mark head kind) ≡ 0
mark_size head kind (inl e) = ap (λ q. size_of (unit_mark head q)) e
mark_size head kind (inr e) = ap (λ q. size_of (unit_mark head q)) e

-- how many words it has, part by part
pub standing_size :
    (x : Standing) → IsUnitKind x.unit.head.kind →
    size_of (standing_code x)
    ≡ size_of (begin_of x)
    + (size_of x.variables + (size_of (act_code x.unit.head.line) + (size_of (list_code x) + size_of (ending_of x))))
standing_size x kind =
    let n0 = size_append (begin_of x) (behind_beginning x) in
    let n1 = size_append x.variables (behind_made x) in
    let n2 = size_append (act_code x.unit.head.line) (behind_act x) in
    let n3 = size_append (list_code x) (tail_of x) in
    let n4 = size_append (unit_mark x.unit.head x.unit.head.kind) (ending_of x) in
    let n5 = mark_size x.unit.head x.unit.head.kind kind in
    omega (arith, n0, n1, n2, n3, n4, n5)

end_linked :
    {z : Here} → IsHere z →
    Linked z.setting.block.call.surroundings.links z.setting.block.call.code (end_index z.standing)
    (ending_of z.standing)
end_linked {z} h =
    let x = z.standing in
    let mark = unit_mark x.unit.head x.unit.head.kind in
    let l0 = back_of (begin_of x) (behind_beginning x) h.raised.stands in
    let l1 = back_of x.variables (behind_made x) l0 in
    let l2 = back_of (act_code x.unit.head.line) (behind_act x) l1 in
    let l3 = back_of mark (ending_of x) (back_of (list_code x) (tail_of x) l2) in
    let n = mark_size x.unit.head x.unit.head.kind h.raised.kind in
    linked_at (end_index x) (ending_of x) (omega (arith, n)) l3

-- ---- its statements

abbrev debt_of : Standing → ℕ
debt_of x = left_over + size_of (ending_of x)

abbrev goal_of : Here → (wanted : ℕ) → Aims (Unit {0})
goal_of z wanted = raise_aims z.setting z.from z.raise.numbers z.raise.back wanted

-- its list comes to what is behind it from its first statement
abbrev pub UnitGoes : Setting → Standing → Raise → Type 0
UnitGoes k x r =
    IsBegun (unit_block k x r) → IsAmong (unit_block k x r) r.numbers (unit_block k x r).first →
    k.block.call.surroundings.acts < (unit_block k x r).around.turns + (unit_block k x r).first.state.world.acts →
    AreMarked k.block.call.surroundings.links x.environment x.unit.body (list_index x) →
    Linked k.block.call.surroundings.links k.block.call.code (list_index x) (list_code x) → (f : Family) →
    AreIn k.block.call.surroundings (unit_block k x r).first r.numbers (list_index x) f →
    Comes k.block.call.code 0 f (services_of (unit_block k x r).first)
    (list_aims (unit_block k x r) (unit_block k x r).first.state.world.acts (end_index x) left_over left_over)
    (M.list (at_line x.around x.unit.head.line) x.unit.body k.block.call.surroundings.acts
    (unit_block k x r).first.state)

-- wherever it is raised
abbrev pub UnitComes : (k : Setting) (x : Standing) (more : ℕ) → IsRaised k x more → Type 0
UnitComes k x more h = (r : Raise) → IsRaiseOf k x more h r → AreMade k x r × UnitGoes k x r

list_goes :
    (z : Here) (h : IsHere z) (wanted : ℕ) (f : Family) →
    IsAmong (unit_block z.setting z.standing z.raise) z.raise.numbers (unit_block z.setting z.standing z.raise).first →
    UnitGoes z.setting z.standing z.raise →
    AreIn z.setting.block.call.surroundings (unit_block z.setting z.standing z.raise).first z.raise.numbers
    (list_index z.standing) f →
    Comes z.setting.block.call.code 0 f (services_of (unit_block z.setting z.standing z.raise).first)
    (within (owing z.setting.block.call.code (debt_of z.standing) (goal_of z wanted)))
    (M.list (at_line z.standing.around z.standing.unit.head.line) z.standing.unit.body
    z.setting.block.call.surroundings.acts (unit_block z.setting z.standing z.raise).first.state)
list_goes z h wanted f o goes there =
    let k = z.setting.block in
    let w = k.call.surroundings in
    let x = z.standing in
    let u = unit_block z.setting x z.raise in
    let acts = u.first.state.world.acts in
    let b = first_begun z h o in
    let l0 = back_of (begin_of x) (behind_beginning x) h.raised.stands in
    let l1 = back_of x.variables (behind_made x) l0 in
    let l2 = front_of (list_code x) (tail_of x) (back_of (act_code x.unit.head.line) (behind_act x) l1) in
    let enough = h.raised.enough in
    let turns = ap (λ (a : Around). a.turns) h.raised.around in
    let same = h.made.acts in
    let later = h.is.later in
    let since = h.since in
    let owed = owing k.call.code (debt_of x) (goal_of z wanted) in
    let flow = M.list u.around x.unit.body w.acts u.first.state in
    comes_map (list_aims u acts (end_index x) left_over left_over) (within owed) refl flow
    (λ c' f' v' r s q. ended_owing z h left_over wanted c' f' v' None s (end_linked h)
    (at_end {k = from_point u q.first} q.begun refl (omega arith) q.goes))
    (λ c' f' v' height label s q i0 f0 v0 from. jumps_repaid {k = k} (debt_of x) from
    (jumps_since (omega (arith, since, same)) (leaves_by_jump z acts c' f' v' height label s q)))
    (λ c' f' v' r s q. ended_owing z h left_over wanted c' f' v' r s (end_linked h) q.to)
    (goes b o (omega (arith, enough, turns, same, later)) h.raised.labels l2 f there)

-- ---- its block, from its first instruction

unit_goes :
    (z : Here) (h : IsHere z) (wanted : ℕ) (f : Family) →
    UnitGoes z.setting z.standing z.raise →
    ((b : _) → IsIn z.setting.block.call.surroundings (waiting z) z.raise.numbers z.standing.entry b (f b)
    × IsAtUnit (waiting z) (unit_beginning z.setting.block.call.surroundings z.standing z.raise) b (f b)) →
    Comes z.setting.block.call.code 19 f (services_of (waiting z))
    (within (owing z.setting.block.call.code (debt_of z.standing) (goal_of z wanted)))
    (unit_body z.standing.around z.standing.unit.head z.standing.unit.body z.setting.block.call.surroundings.acts
    (begun_unit z.setting.block.call.surroundings z.standing z.raise).state)
unfolding ◌>>◌
unit_goes z h wanted f goes there =
    let k = z.setting.block in
    let w = k.call.surroundings in
    let x = z.standing in
    let u = unit_block z.setting x z.raise in
    let start = begun_unit w x z.raise in
    let then' = x.made start in
    let around' = at_line x.around x.unit.head.line in
    let owed = owing k.call.code (debt_of x) (goal_of z wanted) in
    let closed' = within_closed (owing_closed k.call.code (debt_of x) (goal_of z wanted)) in
    let new = begun_known z h in
    let l0 = back_of (begin_of x) (behind_beginning x) h.raised.stands in
    let l1 = back_of x.variables (behind_made x) l0 in
    let n = standing_size x h.raised.kind in
    let inside = h.raised.stands.inside in
    let whole = h.raised.routines.linked.inside in
    let listed : Unit {0} → Meaning (Unit {0}) = λ q. behind_variables around' x.unit.body in
    let next' : Unit {0} → Meaning (Unit {0}) = λ q. M.list around' x.unit.body in
    let c1 = 19 + size_of (begin_of x) in
    onward closed' (U.unit_begins 19 x.entry f (premises z h) (front_of (begin_of x) (behind_beginning x)
    h.raised.stands) there)
    (λ g at.
    subst (λ flow. Comes k.call.code c1 g (services_of start) (within owed) (flow_on w.acts flow listed))
    (sym h.made.means)
    (onward closed' (h.made.comes c1 g new (front_of x.variables (behind_made x) l0) at)
    (λ g' at'.
    comes_on w.acts (act counted w.acts then'.state) next'
    (act_comes (before_closed w.acts next' closed') x.unit.head.line (c1 + size_of x.variables) 0 g'
    (h.made.stands new) (h.raised.line, h.raised.acts, omega (arith, n, inside, whole))
    (front_of (act_code x.unit.head.line) (behind_act x) l1) at'
    (λ g'' less at''. list_goes z h wanted g'' (first_among z h less) goes at'')))))

-- ---- the raise

pub raise_comes :
    (k : Setting) (x : Standing) (more : ℕ) (h : IsRaised k x more) → UnitComes k x more h → (code : ℕ) →
    (0 < code) × (code < 2 ^ 16) → (p : Point) (numbers : ℕ → ℕ) (credits wanted index : ℕ) (f : Family) →
    IsAmong k.block numbers p → p.control.line ≡ k.around.line →
    Linked k.block.call.surroundings.links k.block.call.code index (A.raised x.unit.condition code) →
    credits + size_of (A.raised x.unit.condition code) + k.most ≤ cost k.block.call.code →
    AreIn k.block.call.surroundings p numbers index f →
    Comes k.block.call.code credits f (services_of p)
    (raise_aims k p numbers (index + size_of (A.raised x.unit.condition code)) wanted)
    (R.raised k.around x.unit.condition code k.block.call.surroundings.acts p.state)
unfolding R.raised ◌>>◌
raise_comes k x more h does n codes p numbers c wanted index f o line l paid there =
    let w = k.block.call.surroundings in
    let code = k.block.call.code in
    let condition = x.unit.condition in
    let q = raised_at condition n p in
    let r : Raise = record { code = n; back = index + 4; height = h.by.height; point = q; numbers = numbers } in
    let z : Here = record { setting = k; standing = x; more = more; raise = r; from = p } in
    let debt = debt_of x in
    let goal = goal_of z wanted in
    let owed = owing code debt goal in
    let next' : Unit {0} → Meaning (Unit {0}) = λ u. behind_raise k.around condition n in
    let finding : Finding = record {
      surroundings = w;
      code = code;
      point = p;
      numbers = numbers;
      condition = condition;
      number = n;
      by = h.by;
      unit = unit_of x.unit;
      index = index;
      entry = x.entry;
    } in
    let forced = ap (λ as'. force as' condition) o.later.activations ∙ h.force in
    let size = standing_size x h.kind in
    let inside = h.stands.inside in
    let linked = l.inside in
    let small' = l.small' in
    let most = h.most in
    let from = o.later.acts in
    let is : IsFinding finding = record {
      stands = o.stands;
      image = o.image;
      routines = h.routines;
      acts = h.acts;
      small' = codes.1;
      force = forced;
      only = h.only;
      some = h.some;
      inside = omega (arith, size, inside);
      linked = l;
    } in
    comes_early w refl there
    (λ early.
    comes_owing debt (R.raised k.around condition n w.acts p.state)
    (comes_on w.acts (act (raising condition n) w.acts p.state) next'
    (raise_finds finding (before_closed w.acts next' (owing_closed code debt goal)) (c + debt) f is
    (omega (arith, paid, most, size)) there
    (λ g less at.
    let o' = raised_among condition n o less in
    let of : IsRaiseOf k x more h r = record {
      among = o';
      later = omega (arith, from);
      height = refl;
      some = codes.0;
      near = codes.1;
    } in
    let d = does r of in
    let same = d.0.acts in
    let here : IsHere z = record {
      raised = h;
      is = of;
      made = d.0;
      few = few_made w p (unit_block k x r).first early d.0.few less;
      since = omega arith;
      line = refl;
      back = omega (arith, linked, small');
    } in
    let state = (begun_unit w x r).state in
    subst (Comes code 19 g (services_of (waiting z)) owed)
    (sym (unit_means k.around x.around condition x.unit.head x.unit.body more n w.acts h.by q.state h.enter h.around
    h.kind (subst (λ xs. nat_lt (length xs) most_activations ≡ true) (sym o.later.activations) h.shallow) forced))
    (comes_returned w.acts (unit_body x.around x.unit.head x.unit.body w.acts state)
    (unit_goes z here wanted g d.1
    (λ b. ((at b).0, record { parent = (at b).1.0; return = (at b).1.1 }))))))))

-- of the condition, however it is called
raise_as :
    (c : Condition) (k : Setting) (x : Standing) (more : ℕ) (h : IsRaised k x more) → UnitComes k x more h →
    x.unit.condition ≡ c → (code : ℕ) → (0 < code) × (code < 2 ^ 16) → (p : Point) (numbers : ℕ → ℕ)
    (credits wanted index : ℕ) (f : Family) → IsAmong k.block numbers p → p.control.line ≡ k.around.line →
    Linked k.block.call.surroundings.links k.block.call.code index (A.raised c code) →
    credits + size_of (A.raised c code) + k.most ≤ cost k.block.call.code →
    AreIn k.block.call.surroundings p numbers index f →
    Comes k.block.call.code credits f (services_of p)
    (raise_aims k p numbers (index + size_of (A.raised c code)) wanted)
    (R.raised k.around c code k.block.call.surroundings.acts p.state)
raise_as c k x more h does e code codes p numbers credits wanted index f o line l paid there =
    subst (λ d. Linked k.block.call.surroundings.links k.block.call.code index (A.raised d code) →
    Comes k.block.call.code credits f (services_of p) (raise_aims k p numbers (index + 4) wanted)
    (R.raised k.around d code k.block.call.surroundings.acts p.state)) e
    (λ l'. raise_comes k x more h does code codes p numbers credits wanted index f o line l' paid there) l

-- ---- FIXEDOVERFLOW in an expression

-- a raise of the condition with the code comes behind it, or to where a unit jumps
abbrev pub RaisesTo : Setting → Condition → (code : ℕ) → Type 0
RaisesTo k c code =
    (p : Point) (numbers : ℕ → ℕ) (credits wanted index : ℕ) (f : Family) → IsAmong k.block numbers p →
    p.control.line ≡ k.around.line →
    Linked k.block.call.surroundings.links k.block.call.code index (A.raised c code) →
    credits + size_of (A.raised c code) + k.most ≤ cost k.block.call.code →
    AreIn k.block.call.surroundings p numbers index f →
    Comes k.block.call.code credits f (services_of p)
    (raise_aims k p numbers (index + size_of (A.raised c code)) wanted)
    (R.raised k.around c code k.block.call.surroundings.acts p.state)

pub overflow_by : (k : Setting) → RaisesTo k C.FixedOverflow fixed_overflow_code → OverflowComes k
overflow_by k raises p numbers taken c index given f o line registers small' l paid at =
    let w = k.block.call.surroundings in
    let code = k.block.call.code in
    let t = in_registers k.words taken in
    let g = point_frame o.stands o.image in
    let first = save a0 t in
    let raise' = A.raised C.FixedOverflow fixed_overflow_code in
    let back = fetch a0 t in
    let y = behind p numbers taken c index (overflow_raised t) in
    let n = size_sum first raise' back in
    let l1 = back_of first (raise' ++ back) l in
    let l2 = back_of raise' back l1 in
    let held = held_after numbers taken given in
    let o' = held_among k taken 1 given registers (omega arith) small' o in
    let i = index + size_of first in
    let wanted = c + size_of first + size_of raise' in
    onward (word_closed k.block k.labels y given)
    (saved_reach k taken 0 g registers c f given small' (front_of first (raise' ++ back) l)
    (λ b. known_word k.block g (at b)))
    (λ f1 at1.
    comes_map (raise_aims k p held (i + size_of raise') wanted) (word_aims k.block k.labels y given) refl
    (R.raised k.around C.FixedOverflow fixed_overflow_code w.acts p.state)
    (λ c' f' v' r s q.
    let h' = point_frame q.among.stands q.among.image in
    let r1 = fetched_reach k taken 0 h' registers wanted (reached q.reach) a0 given small'
    (held_is_given numbers taken given)
    (record { reserved_stay = λ u v. refl; known_stay = λ b u v e. e; set = λ u v. refl })
    (record { reserved_stay = λ u v. refl; known_stay = λ b u v e. e; set = λ u v. refl }) l2
    (λ b. known_in {t = λ n. 0} {rs = nothing} h' (reached_holds q.reach b) tt) in
    record {
      point = q.point;
      numbers = held;
      among = q.among;
      since = q.since;
      line = q.line;
      stays = λ m less. held_stays numbers taken given m less;
      state = q.state;
      reach = reach_with y.wanted (omega (arith, n)) (reach_map _ (reach_then q.reach r1)
          (λ b m e. (
            subst (λ j. IsIn w q.point held j b m) (omega (arith, n)) (in_known h' q.among.image.parts e),
            e.holds.regs.0,
          )));
    })
    (λ c' f' v' height label s q. q)
    (λ c' f' v' r s q. absurd q)
    (raises p held (c + size_of first) wanted i f1 o' line (front_of raise' back l1) (omega (arith, paid, n))
    (λ b. in_known g o.image.parts (at1 b))))

pub overflow_comes :
    (k : Setting) (x : Standing) (more : ℕ) (h : IsRaised k x more) → UnitComes k x more h →
    x.unit.condition ≡ C.FixedOverflow → OverflowComes k
overflow_comes k x more h does condition =
    overflow_by k
    (λ p numbers credits wanted index f o line l paid there.
    raise_as C.FixedOverflow k x more h does condition fixed_overflow_code (omega arith, omega arith) p numbers credits
    wanted index f o line l paid there)

-- ---- where each statement of the unit does what it means

each_goes : (k : Setting) (x : Standing) (more : ℕ) (h : IsRaised k x more) → UnitDoes k x more h → UnitComes k x more h
each_goes k x more h does r is =
    let d = does r is in
    let u = unit_block k x r in
    let acts = u.first.state.world.acts in (
      d.0,
      λ b o enough marks l f there.
          let inside = l.inside in
          comes_map (statement_aims u [] acts (end_index x) left_over left_over)
          (list_aims u acts (end_index x) left_over left_over) refl
          (M.list u.around x.unit.body k.block.call.surroundings.acts u.first.state)
          (λ c' f' v' r' s q. record { first = u.first; begun = b; goes = q })
          (λ c' f' v' height label s q. out_of_all q)
          (λ c' f' v' r' s q. q)
          (list_does u [] x.unit.body (list_index x) left_over u.first r.numbers 0 left_over f b enough (d.1 b) marks o
          l (omega arith, omega (arith, inside)) there),
    )

pub raise_returns :
    (k : Setting) (x : Standing) (more : ℕ) (h : IsRaised k x more) → UnitDoes k x more h → (code : ℕ) →
    (0 < code) × (code < 2 ^ 16) → (p : Point) (numbers : ℕ → ℕ) (credits wanted index : ℕ) (f : Family) →
    IsAmong k.block numbers p → p.control.line ≡ k.around.line →
    Linked k.block.call.surroundings.links k.block.call.code index (A.raised x.unit.condition code) →
    credits + size_of (A.raised x.unit.condition code) + k.most ≤ cost k.block.call.code →
    AreIn k.block.call.surroundings p numbers index f →
    Comes k.block.call.code credits f (services_of p)
    (raise_aims k p numbers (index + size_of (A.raised x.unit.condition code)) wanted)
    (R.raised k.around x.unit.condition code k.block.call.surroundings.acts p.state)
raise_returns k x more h does = raise_comes k x more h (each_goes k x more h does)

pub overflow_returns :
    (k : Setting) (x : Standing) (more : ℕ) (h : IsRaised k x more) → UnitDoes k x more h →
    x.unit.condition ≡ C.FixedOverflow → OverflowComes k
overflow_returns k x more h does = overflow_comes k x more h (each_goes k x more h does)

pub raises_return : RaisesReturn
raises_return = record { raise = raise_returns; overflow = overflow_returns }

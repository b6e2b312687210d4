-- CALL of a procedure that may jump out comes behind it, or to where the procedure jumps.
use Rattle.std.proofs.Common.{◌≡◌, ℕ, ◌+◌, ◌<◌, ◌≤◌, List, [], ◌∷◌, ◌++◌, length, Option, true}
use Rattle.std.proofs.Common.{refl, sym, ap, ◌∙◌, subst, arith}
use Rattle.std.specs.Prelude.{nat_lt}
use Rattle.pli_typing.specs.TypedTree as Y
use Rattle.pli_meaning.specs.BasicValues.{BasicValue}
use Rattle.pli_meaning.specs.Control.{Label, Meaning, act, flow_on, give, looked, ◌>>=◌, ◌>>◌}
use Rattle.pli_meaning.specs.Evaluating as V
use Rattle.pli_meaning.specs.Executing as M
use Rattle.pli_meaning.specs.Executing.{begun}
use Rattle.pli_meaning.specs.Raising.{Around, Entry, at_line}
use Rattle.pli_meaning.specs.StorageState.{State, ancestor_at, height_of, most_activations}
use Rattle.pli_meaning.specs.World.{World, counted}
use Rattle.pli_serving.specs.ServiceState.{Services}
use Rattle.pli_coding.specs.Allocating.{act_code}
use Rattle.pli_coding.specs.Assembly.{Code, Mark, ReturnPlace, size_of}
use Rattle.pli_coding.specs.Environments.{none_taken}
use Rattle.pli_coding.specs.Frames.{fixed_size}
use Rattle.pli_coding.specs.Statements.{stmts_code}
use Rattle.activation_relation.specs.Chains.{HasParent, frame_at}
use Rattle.activation_relation.specs.Frames.{frame_under, lower_end}
use Rattle.activation_relation.specs.Layers.{Point, services_of}
use Rattle.activation_relation.specs.Points.{AreFew, Stands}
use Rattle.activation_relation.proofs.Remaining.{remains_acted, remains_then}
use Rattle.activation_relation.proofs.Returning.{later_same, later_then}
use Rattle.activation_relation.proofs.Serials.{few_made}
use Rattle.run_steps.specs.Engine.{Base}
use Rattle.run_steps.specs.Items.{Linked}
use Rattle.run_steps.proofs.Jumps.{back_of, front_of, linked_at, rest_of}
use Rattle.run_steps.proofs.Linking.{size_append}
use Rattle.run_steps.specs.Reach.{Comes, Family, before, cost}
use Rattle.run_steps.proofs.Reach.{before_closed, comes_on, onward, reach_map}
use Rattle.block_runs.specs.Beginnings.{IsCalling}
use Rattle.block_runs.specs.Bodies as B
use Rattle.block_runs.specs.Bodies.{IsBehind}
use Rattle.block_runs.specs.Machines.{AreIn, IsImage, IsIn, acted}
use Rattle.block_runs.proofs.BlockEntries.{Premises, begun_stands}
use Rattle.block_runs.proofs.CallStatements.{arguments_given, call_code_of, comes_map, given_code, own_code}
use Rattle.block_runs.proofs.PointActs.{act_comes, stands_acted}
use Rattle.program_runs.specs.Calls.{AreMade, Callee, IsCall, IsCallee, begun_at, body_index, call_of, called_at}
use Rattle.program_runs.specs.Calls.{left_over, variables_index}
use Rattle.program_runs.specs.Procedures.{HasRoom, begin_of, block_of, end_of, frame_for, procedure_code}
use Rattle.program_runs.specs.Statements.{Block, Does, GoesOn, IsAmong, IsBegun, size_in, statement_aims}
use Rattle.program_runs.proofs.Calls.{behind_variables, block_means}
use Rattle.program_runs.proofs.CallStatements.{newest_frame_at, statement_at}
use Rattle.program_runs.proofs.JumpsOut.{outs_since}
use Rattle.program_runs.proofs.NewestBlocks.{Newest, newest_at, own_ancestor}
use Rattle.program_runs.proofs.Procedures.{layer_begins}
use Rattle.program_runs.proofs.Statements.{acted_among, at_end, statement_closed}
use Rattle.program_runs.proofs.Waiting.{outer_among}
use Rattle.begin_runs.specs.BehindLists.{from_point, list_aims}
use Rattle.unit_runs.specs.InnerLists.{IsList, ListDoes}
use Rattle.jump_runs.specs.Calls.{block_in}
use Rattle.jump_runs.specs.Exits.{exit_aims, hand_aims}
use Rattle.jump_runs.proofs.Exits.{calls_hand, exit_closed}
use Rattle.block_runs.proofs.Early.{comes_early}

-- ---- a procedure called at a point of a block, with the labels that a jump may name there

pub record Here : Type 0 where
  pub block : Block
  pub labels : List Label
  pub callee : Callee
  pub point : Point
  pub numbers : ℕ → ℕ

abbrev pub own_block : Here → Block
own_block z = block_in z.block z.labels z.callee z.point z.numbers

pub record IsHere (z : Here) : Type 0 where
  pub begun : IsBegun z.block
  pub among : IsAmong z.block z.numbers z.point
  pub callee : IsCallee z.block.call.surroundings z.block.call.code z.callee
  pub room : HasRoom z.block.call.surroundings z.point z.callee.procedure z.callee.calling
  pub made : AreMade z.block.call.surroundings z.block.call.code z.callee z.point z.numbers
  pub enough : z.block.call.surroundings.acts < z.callee.around.turns + (z.point.state.world.acts + 1)

-- ---- its code

abbrev ending_of : Here → Code
ending_of z = Mark (ReturnPlace z.callee.procedure.head.number) ∷ end_of z.callee.procedure

abbrev list_code : Here → Code
list_code z = stmts_code z.callee.environment none_taken z.callee.procedure.body

abbrev act_of : Here → Code
act_of z = act_code z.callee.procedure.head.line

abbrev behind_made : Here → Code
behind_made z = act_of z ++ (list_code z ++ ending_of z)

made_linked :
    {z : Here} → IsHere z →
    Linked z.block.call.surroundings.links z.block.call.code (variables_index z.callee)
    (z.callee.procedure.variables ++ behind_made z)
made_linked {z} h =
    back_of (begin_of z.callee.procedure) (z.callee.procedure.variables ++ behind_made z) h.callee.stands

act_linked :
    {z : Here} → IsHere z →
    Linked z.block.call.surroundings.links z.block.call.code
    (variables_index z.callee + size_of z.callee.procedure.variables) (behind_made z)
act_linked {z} h = back_of z.callee.procedure.variables (behind_made z) (made_linked h)

list_linked :
    {z : Here} → IsHere z →
    Linked z.block.call.surroundings.links z.block.call.code (body_index z.callee) (list_code z ++ ending_of z)
list_linked {z} h = back_of (act_of z) (list_code z ++ ending_of z) (act_linked h)

is_call : (z : Here) → IsHere z → B.IsCall (own_block z).call
is_call z h =
    let w = z.block.call.surroundings in
    let code = z.block.call.code in
    let x = z.callee.procedure in
    let mark = Mark (ReturnPlace x.head.number) in
    let e = h.callee.end in
    record {
      stands = h.among.stands;
      image = h.among.image;
      beginning = layer_begins w code z.point z.numbers x z.callee.calling (h.among.stands, h.among.image)
          (h.callee.coded, h.room) h.among.words;
      code = record {
        calls = h.callee.calls;
        place = h.callee.place;
        begins = front_of (begin_of x) (x.variables ++ behind_made z) h.callee.stands;
        back = refl;
      };
      ending = linked_at z.callee.calling.end (end_of x) (omega (arith, e))
          (rest_of mark (end_of x) (back_of (list_code z) (ending_of z) (list_linked h)));
      word = tt;
    }

-- ---- its first statement

first_among :
    (z : Here) → IsHere z →
    Stands z.block.call.surroundings (z.callee.made (begun_at z.block.call.surroundings z.callee z.point z.numbers))
    × IsImage z.block.call.surroundings z.block.call.code
    (z.callee.made (begun_at z.block.call.surroundings z.callee z.point z.numbers)) →
    (z.callee.made (begun_at z.block.call.surroundings z.callee z.point z.numbers)).state.world.acts
    < z.block.call.surroundings.acts →
    AreFew z.block.call.surroundings (own_block z).first → IsAmong (own_block z) z.numbers (own_block z).first
first_among z h made' less few =
    let known = stands_acted z.callee.procedure.head.line made'.0 made'.1 less in
    record {
      stands = known.0;
      image = known.1;
      later = later_same (own_block z).first;
      few = few;
      entries = refl;
      others = λ n more. refl;
      words = h.among.words;
    }

-- there its block is the newest, over that which calls it
first_begun :
    (z : Here) (h : IsHere z) → Stands z.block.call.surroundings (begun_at z.block.call.surroundings z.callee z.point
    z.numbers) → Stands z.block.call.surroundings (own_block z).first → IsBegun (own_block z)
first_begun z h begun' stands =
    let m = h.made in
    let b = h.begun in
    let o = h.among in
    let same = ap (λ (u : World). u.acts) m.world in
    let line = z.callee.procedure.head.line in
    let then' = z.callee.made (begun_at z.block.call.surroundings z.callee z.point z.numbers) in
    record {
      activation = m.activation;
      resumes = record {
        stands = stands;
        idle = m.idle;
        changed = m.changed;
        layers = m.layers;
        own = m.own;
        activations = m.activations;
        more = omega (arith, same);
      };
      acts = omega (arith, same);
      remains = remains_then z.point then' (own_block z).first (m.remains begun') (remains_acted then' counted line);
      outer = (
        record {
          activation = b.activation;
          resumes = b.resumes;
          remains = b.remains;
          numbers = z.numbers;
          among = outer_among z.block z.labels [] b o;
        },
        b.outer,
      );
    }

-- ---- its list

-- from its first statement
abbrev pub ListExits : Here → (acts : ℕ) → Type 0
ListExits z acts =
    IsBegun (own_block z) → IsAmong (own_block z) z.numbers (own_block z).first → (f : Family) →
    AreIn z.block.call.surroundings (own_block z).first z.numbers (body_index z.callee) f →
    Comes z.block.call.code 0 f (services_of (own_block z).first) (exit_aims (own_block z) acts left_over)
    (M.list (own_block z).around z.callee.procedure.body z.block.call.surroundings.acts (own_block z).first.state)

pub list_exits :
    (z : Here) (h : IsHere z) (acts : ℕ) → acts ≤ z.point.state.world.acts →
    (IsList (own_block z) z.callee.procedure.body (body_index z.callee) →
    ListDoes (own_block z) z.callee.procedure.body (body_index z.callee) left_over) → ListExits z acts
list_exits z h acts since does b o f there =
    let i = own_block z in
    let w = z.block.call.surroundings in
    let l = front_of (list_code z) (ending_of z) (list_linked h) in
    let inside = l.inside in
    let enough = h.enough in
    let same = ap (λ (u : World). u.acts) h.made.world in
    let first = i.first.state.world.acts in
    let flow = M.list i.around z.callee.procedure.body w.acts i.first.state in
    comes_map (list_aims i first z.callee.calling.end left_over left_over) (exit_aims i acts left_over) refl flow
    (λ c' f' v' r s q. at_end {k = from_point i q.first} q.begun refl (omega arith) q.goes)
    (λ c' f' v' height label s q.
    outs_since w z.block.call.code i.outers acts first c' f' v' height label _ (omega (arith, since, same)) q)
    (λ c' f' v' r s q. q.to)
    (subst (λ j. Comes z.block.call.code 0 f (services_of i.first) (list_aims i first j left_over left_over) flow)
    (sym h.callee.end)
    (does (record { begun = b; linked = l; enough = omega (arith, enough, same) }) i.first z.numbers 0 left_over f o
    (omega arith, omega (arith, inside)) there))

-- ---- the procedure

pub procedure_hands :
    (z : Here) (h : IsHere z) (acts credits wanted : ℕ) (f : Family) → ListExits z acts →
    credits + 4 + size_of (procedure_code z.callee.environment z.callee.procedure) ≤ cost z.block.call.code →
    AreIn z.block.call.surroundings z.point z.numbers z.callee.calling.call f →
    ((b : Base) → IsCalling z.point (own_block z).call.beginning b (f b)) →
    Comes z.block.call.code credits f (services_of z.point) (hand_aims (own_block z) acts wanted)
    (M.block_run z.callee.around (block_of z.callee.procedure)
    (begun (block_of z.callee.procedure) z.callee.calling.parent) z.block.call.surroundings.acts z.point.state)
unfolding ◌>>◌
procedure_hands z h acts credits wanted f list' paid there gives =
    let i = own_block z in
    let k = i.call in
    let w = k.surroundings in
    let code = k.code in
    let c = z.callee in
    let p = z.point in
    let x = c.procedure in
    let is = is_call z h in
    let q : Premises w code p z.numbers k.beginning = record {
      stands = h.among.stands;
      image = h.among.image;
      is = is.beginning;
    } in
    let new = begun_stands q in
    let n0 = size_append (begin_of x) (x.variables ++ behind_made z) in
    let n1 = size_append x.variables (behind_made z) in
    let n2 = size_append (act_of z) (list_code z ++ ending_of z) in
    let n3 = size_append (list_code z) (ending_of z) in
    let around' = at_line c.around x.head.line in
    let next' : Unit {0} → Meaning (Unit {0}) = λ u. M.list around' x.body in
    let start = begun_at w c p z.numbers in
    let then' = c.made start in
    let stands' = h.made.stands new in
    let closed' = exit_closed i acts left_over in
    let aims = exit_aims i acts left_over in
    let c0 = credits + (left_over + size_of (end_of x)) + 2 + size_of (begin_of x) in
    subst (λ flow. Comes code credits f (services_of p) (hand_aims i acts wanted) flow)
    (sym (block_means c.around x.head x.body c.calling.parent w.acts p.state h.callee.kind h.room.shallow))
    (comes_early w refl there
    (λ early.
    calls_hand i
    (M.block_variables_made around' x.head x.head.kind >> behind_variables around' x.body) acts credits left_over
    wanted f is
    (λ g at.
    subst (λ flow. Comes code c0 g (services_of start) aims
    (flow_on w.acts flow (λ u. behind_variables around' x.body))) (sym h.made.means)
    (onward closed' (h.made.comes c0 g new (front_of x.variables (behind_made z) (made_linked h)) at)
    (λ g' at'.
    comes_on w.acts (act counted w.acts then'.state) next'
    (act_comes (before_closed w.acts next' closed') x.head.line (c0 + size_of x.variables) 0 g' stands'
    (h.callee.coded.line, h.callee.acts, omega (arith, n0, n1, n2, n3, paid))
    (front_of (act_of z) (list_code z ++ ending_of z) (act_linked h)) at'
    (λ g'' less at''.
    let same = ap (λ (u : World). u.acts) h.made.world in
    let o = first_among z h stands' less
    (few_made w p i.first early h.made.few (omega (arith, same, less))) in
    list' (first_begun z h new.0 o.stands) o g'' at''))))) there gives))

-- ---- the statement

parent_height :
    {k : Block} {c : Callee} {line index more : ℕ} {p : Point} → IsCall k c line index more → Newest k p →
    height_of (ancestor_at p.state k.environment.level) ≡ c.calling.parent
parent_height h n = own_ancestor h.level n ∙ sym h.parent

parent_frame :
    {k : Block} {c : Callee} {line index more : ℕ} {p : Point} → IsCall k c line index more → Newest k p →
    frame_at p.control.layers c.calling.parent ≡ frame_under k.call.surroundings.parts p.control.layers
parent_frame {k} {c} h n =
    let parts = k.call.surroundings.parts in
    let many = n.many in
    let parent = h.parent in
    subst (λ ls. frame_at ls c.calling.parent ≡ frame_under parts ls) (sym n.layers)
    (newest_frame_at n.layer k.call.point.control.layers c.calling.parent (omega (arith, many, parent)))

room_among :
    {k : Block} {c : Callee} {line index more : ℕ} {numbers : ℕ → ℕ} {p : Point} → IsCall k c line index more →
    IsAmong k numbers p → HasRoom k.call.surroundings p c.procedure c.calling
room_among {k} {c} h o =
    let parts = k.call.surroundings.parts in
    let x = c.procedure in
    record {
      room = subst (λ ls. frame_for parts ls x + fixed_size x.head.level 0 ≤ lower_end parts ls) (sym o.later.layers)
          h.room.room;
      shallow = subst (λ xs. nat_lt (length xs) most_activations ≡ true) (sym o.later.activations) h.room.shallow;
      parent = subst (λ xs. HasParent x.head.level c.calling.parent xs) (sym o.later.activations) h.room.parent;
      idle = o.later.waiting ∙ h.room.idle;
    }

-- what the call means
called_means :
    {k : Block} {c : Callee} {line index more : ℕ} {p : Point} → IsCall k c line index more → Newest k p →
    V.called (at_line k.around line) (Y.Calling c.procedure.head.number k.environment.level Y.NoArgument)
    k.call.surroundings.acts p.state
    ≡ M.block_run c.around (block_of c.procedure) (begun (block_of c.procedure) c.calling.parent)
    k.call.surroundings.acts p.state
unfolding V.called V.arguments V.all_passed_last V.procedure_entered M.entered looked give ◌>>=◌ ◌>>◌
called_means {k} {c} {line} {more = more} {p = p} h n =
    let s = p.state in
    let acts = k.call.surroundings.acts in
    let block = block_of c.procedure in
    let height = height_of (ancestor_at s k.environment.level) in
    ap (λ q. V.procedure_entered (at_line k.around line) q k.environment.level [] acts s) h.found
    ∙ ap (λ (enters : Entry → Meaning (Option BasicValue)). enters (begun block height) acts s) h.enter
    ∙ ap (λ (a : Around). M.block_run a block (begun block height) acts s) (sym h.around)
    ∙ ap (λ m. M.block_run c.around block (begun block m) acts s) (parent_height h n)

abbrev behind_call : Option BasicValue → Meaning (Unit {0})
behind_call r = give tt

-- behind the call its block goes on
behind_goes :
    {k : Block} {c : Callee} {acts line index more wanted credits : ℕ} {numbers : ℕ → ℕ} {p : Point} {f : Family}
    {r : Option BasicValue} {s : State} {v : Services} (h : IsCall k c line index more) (o : IsAmong k numbers p) →
    acts ≤ p.state.world.acts →
    IsBehind (called_at k.call.surroundings k.call.code c p numbers) wanted credits f v r s →
    GoesOn k acts (index + size_in k (call_of k c line)) wanted credits f v s
behind_goes {k} {numbers = numbers} {p = p} h o since q =
    let w = k.call.surroundings in
    let more = q.later.acts in
    record {
      point = q.point;
      numbers = numbers;
      among = record {
        stands = q.stands;
        image = q.image;
        later = later_then k.first p q.point o.later q.later;
        few = q.few;
        entries = q.entries ∙ o.entries;
        others = o.others;
        words = o.words;
      };
      since = omega (arith, since, more);
      state = q.state;
      reach = reach_map _ q.reach (λ b y is. subst (λ n. IsIn w q.point numbers n b y) h.call is.0);
    }

abbrev pub here_of : Block → List Label → Callee → Point → (numbers : ℕ → ℕ) → Here
here_of k labels c p numbers =
    record { block = k; labels = labels; callee = c; point = p; numbers = numbers }

call_goes :
    (k : Block) (labels : List Label) (c : Callee) (acts line index left' more : ℕ) (h : IsCall k c line index more)
    (p : Point) (numbers : ℕ → ℕ) (wanted : ℕ) (f : Family) → IsHere (here_of k labels c p numbers) →
    acts ≤ p.state.world.acts → ListExits (here_of k labels c p numbers) acts →
    Linked k.call.surroundings.links k.call.code (index + size_of (act_code line))
    (given_code (statement_at k c line index p numbers) ++ call_code_of (statement_at k c line index p numbers)) →
    size_in k (call_of k c line)
    ≡ size_of (act_code line)
    + size_of (given_code (statement_at k c line index p numbers)
    ++ call_code_of (statement_at k c line index p numbers)) →
    AreIn k.call.surroundings p numbers (index + size_of (act_code line)) f →
    Comes k.call.code 0 f (services_of p)
    (before k.call.code (statement_aims k labels acts (index + size_in k (call_of k c line)) wanted left')
    k.call.surroundings.acts behind_call)
    (M.block_run c.around (block_of c.procedure) (begun (block_of c.procedure) c.calling.parent)
    k.call.surroundings.acts p.state)
unfolding give
call_goes k labels c acts line index left' more h p numbers wanted f is since list' l size there =
    let w = k.call.surroundings in
    let z = here_of k labels c p numbers in
    let y = statement_at k c line index p numbers in
    let given' = given_code y in
    let call = call_code_of y in
    let n = size_append given' call in
    let inside = l.inside in
    let proc = h.callee.stands.inside in
    let at_call = h.call in
    let aims = statement_aims k labels acts (index + size_in k (call_of k c line)) wanted left' in
    let flow = M.block_run c.around (block_of c.procedure) (begun (block_of c.procedure) c.calling.parent) w.acts
    p.state in
    let closed' = statement_closed k labels acts (index + size_in k (call_of k c line)) wanted left' in
    onward (before_closed w.acts behind_call closed')
    (arguments_given y p numbers (index + size_of (act_code line)) 0 f is.among.stands is.among.image
    (omega arith, refl) (parent_frame h (newest_at is.begun is.among)) (front_of given' call l) there)
    (λ g at.
    comes_map (hand_aims (own_block z) acts wanted) (before k.call.code aims w.acts behind_call) refl flow
    (λ c' f' v' r s q. record { to = λ early. behind_goes h is.among since q })
    (λ c' f' v' height label s q. record { to = q })
    (λ c' f' v' r s q. absurd q)
    (procedure_hands z is acts (0 + size_of given') wanted g list' (omega (arith, n, inside, proc))
    (λ b. subst (λ j. IsIn w p numbers j b (g b)) (omega (arith, n, size, at_call)) (at b).0)
    (λ b. (at b).1)))

pub jump_call_does :
    (k : Block) (labels : List Label) (c : Callee) (line index left' more : ℕ) → IsCall k c line index more →
    ((p : Point) (numbers : ℕ → ℕ) → IsAmong k numbers p →
    AreMade k.call.surroundings k.call.code c p numbers) →
    ((p : Point) (numbers : ℕ → ℕ) → IsAmong k numbers p →
    IsList (block_in k labels c p numbers) c.procedure.body (body_index c) →
    ListDoes (block_in k labels c p numbers) c.procedure.body (body_index c) left_over) → IsBegun k →
    Does k labels (call_of k c line) index left'
unfolding M.statement ◌>>=◌ ◌>>◌
jump_call_does k labels c line index left' more h made' does b p numbers credits wanted f o paid there =
    let w = k.call.surroundings in
    let p' = acted line p in
    let y = statement_at k c line index p' numbers in
    let z = here_of k labels c p' numbers in
    let one = act_code line in
    let given' = given_code y in
    let call = call_code_of y in
    let l = subst (Linked w.links k.call.code index) (own_code y) h.statement in
    let n0 = size_append one (given' ++ call) in
    let size = ap (λ u. size_of u) (own_code y) in
    let tree = Y.Calling c.procedure.head.number k.environment.level Y.NoArgument in
    let tail : Unit {0} → Meaning (Unit {0}) = λ u. V.called (at_line k.around line) tree >> give tt in
    let acts = p.state.world.acts in
    let closed' = statement_closed k labels acts (index + size_in k (call_of k c line)) wanted left' in
    let enough = h.enough in
    let turns = ap (λ (a : Around). a.turns) h.around in
    comes_on w.acts (act counted w.acts p.state) tail
    (act_comes (before_closed w.acts tail closed') line credits 0 f (o.stands, o.image)
    (h.line_fits, h.callee.acts, omega (arith, paid, n0, size)) (front_of one (given' ++ call) l) there
    (λ g less at.
    let o' = acted_among line o less in
    let later = o'.later.acts in
    let is : IsHere z = record {
      begun = b;
      among = o';
      callee = h.callee;
      room = room_among h o';
      made = made' p' numbers o';
      enough = omega (arith, enough, turns, later);
    } in
    comes_on w.acts (V.called (at_line k.around line) tree w.acts p'.state) behind_call
    (subst (Comes k.call.code 0 g (services_of p')
    (before k.call.code (statement_aims k labels acts (index + size_in k (call_of k c line)) wanted left') w.acts
    behind_call))
    (sym (called_means h (newest_at b o')))
    (call_goes k labels c acts line index left' more h p' numbers wanted g is (omega arith)
    (list_exits z is acts (omega arith) (does p' numbers o')) (back_of one (given' ++ call) l) (size ∙ n0) at))))

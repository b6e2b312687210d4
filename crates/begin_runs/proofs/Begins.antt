-- BEGIN among the statements of a block does what it means, however it is left.
use Rattle.std.proofs.Common.{◌<◌}
use Rattle.std.proofs.Common.{◌≡◌, ℕ, suc, ◌+◌, ◌≤◌, ◌⊎◌, inl, inr, List, [], ◌∷◌, ◌++◌, length}
use Rattle.std.proofs.Common.{None, refl, sym, ap, ◌∙◌, subst, arith}
use Rattle.std.proofs.lemmas.Bool.{eq-eqb}
use Rattle.std.proofs.lemmas.List.{append_assoc}
use Rattle.std.specs.Prelude.{cond, nat_lt, true}
use Rattle.pli_meaning.specs.Control.{Label, Meaning, act, flow_on, ◌>>=◌, ◌>>◌}
use Rattle.pli_meaning.specs.Executing as M
use Rattle.pli_meaning.specs.Raising.{at_line}
use Rattle.pli_meaning.specs.StorageState.{Activation, State, ancestor, height_of, without_newest}
use Rattle.pli_meaning.specs.StorageState.{most_activations, with_world}
use Rattle.pli_meaning.specs.World.{counted}
use Rattle.pli_serving.specs.Blocks as B
use Rattle.pli_serving.specs.ServiceState.{Services}
use Rattle.pli_coding.specs.Allocating.{act_code}
use Rattle.pli_coding.specs.Assembly.{Code, size_of}
use Rattle.pli_coding.specs.Entries.{block_left, entered_without_texts, frame_begun, frame_ended}
use Rattle.pli_coding.specs.Environments.{none_taken}
use Rattle.pli_coding.specs.Frames.{fixed_size, temporary_bytes}
use Rattle.pli_coding.specs.Instructions.{move}
use Rattle.pli_coding.specs.Registers.{a0, frame_register}
use Rattle.pli_coding.specs.Statements.{begin_code, stmt_code}
use Rattle.activation_relation.specs.Chains.{HasParent, frame_at}
use Rattle.activation_relation.specs.Changes.{KeepsNone, popped, popped_from}
use Rattle.activation_relation.specs.Entering.{BlockEnd}
use Rattle.activation_relation.specs.Frames.{frame_under, lower_end, upper_top}
use Rattle.activation_relation.specs.Landing.{Changed, closed, resumed}
use Rattle.activation_relation.specs.Layers.{Layer, Point, services_of}
use Rattle.activation_relation.specs.Points.{AreFew}
use Rattle.activation_relation.proofs.PointSteps.{stacks_over}
use Rattle.activation_relation.proofs.Remaining.{remains_then}
use Rattle.activation_relation.proofs.Returning.{later_same, later_then, left_entries, left_later}
use Rattle.activation_relation.proofs.Serials.{few_left, few_made}
use Rattle.run_steps.specs.Items.{Linked}
use Rattle.run_steps.proofs.Jumps.{back_of, front_of}
use Rattle.run_steps.proofs.Linking.{size_append}
use Rattle.run_steps.specs.Owing.{owing}
use Rattle.run_steps.proofs.Owing.{comes_owing, done_owing, owing_closed}
use Rattle.run_steps.specs.Reach.{Aims, Comes, Family, cost, reached}
use Rattle.run_steps.proofs.Reach.{before_closed, comes_on, onward, reach_then, reached_holds, stay}
use Rattle.block_runs.specs.InnerBeginnings.{IsInner, inner_code, inner_ending_code}
use Rattle.block_runs.specs.Machines.{AreIn, IsIn, acted}
use Rattle.block_runs.proofs.CallStatements.{comes_map}
use Rattle.block_runs.proofs.Endings as E
use Rattle.block_runs.proofs.InnerEntries as I
use Rattle.block_runs.proofs.PointActs.{act_comes}
use Rattle.program_runs.specs.Statements.{AreMarked, Block, Does, EachDoes, IsAmong, IsBegun, JumpsOut}
use Rattle.program_runs.specs.Statements.{JumpsTo, LandsAt, own_height, size_in, statement_aims}
use Rattle.program_runs.proofs.JumpsOut.{jumps_repaid, jumps_since, returns_repaid}
use Rattle.program_runs.proofs.Lists.{list_does}
use Rattle.program_runs.proofs.NewestBlocks.{Newest, newest_ancestor, newest_at, newest_own}
use Rattle.program_runs.proofs.Statements.{acted_among, resumes_among, statement_closed}
use Rattle.program_runs.proofs.Waiting.{outer_among}
use Rattle.begin_runs.specs.BeginBlocks.{AreMade, Inner, IsBegin, begin_of, beginning_size, begun_in, end_index}
use Rattle.begin_runs.specs.BeginBlocks.{entry_index, environment_of, inner_beginning, inner_block, inner_layer}
use Rattle.begin_runs.specs.BeginBlocks.{list_code, list_index}
use Rattle.begin_runs.specs.BehindLists.{GoesBehind, from_point, list_aims}
use Rattle.begin_runs.proofs.Meaning.{begin_means, behind_act, comes_passed, list_of, within, within_closed}
use Rattle.block_runs.proofs.Early.{comes_early}

-- ---- where it stands

-- a begin block among the statements of a block, and the point behind the act of its statement
pub record Here : Type 0 where
  pub block : Block
  pub labels : List Label
  pub inner : Inner
  pub index : ℕ
  pub left' : ℕ
  pub more : ℕ
  pub point : Point
  pub numbers : ℕ → ℕ

abbrev pub own_block : Here → Block
own_block z = inner_block z.block z.labels z.point z.numbers z.inner z.index

-- where its statement stands, and where it runs
abbrev pub here_of :
    Block → List Label → Inner → (index left' more : ℕ) → Point → (numbers : ℕ → ℕ) → Here
here_of k labels x index left' more p numbers =
    record {
      block = k;
      labels = labels;
      inner = x;
      index = index;
      left' = left';
      more = more;
      point = p;
      numbers = numbers;
    }

-- its list comes there from its first statement
abbrev pub ListGoes : Here → Type 0
ListGoes z =
    IsBegun (own_block z) → IsAmong (own_block z) z.numbers (own_block z).first →
    z.block.call.surroundings.acts < (own_block z).around.turns + (own_block z).first.state.world.acts →
    AreMarked z.block.call.surroundings.links (environment_of z.block z.inner) z.inner.body
    (list_index z.block z.point z.numbers z.inner z.index) →
    Linked z.block.call.surroundings.links z.block.call.code (list_index z.block z.point z.numbers z.inner z.index)
    (list_code z.block z.inner) → (c : ℕ) (f : Family) →
    c + size_of (list_code z.block z.inner) ≤ cost z.block.call.code →
    AreIn z.block.call.surroundings (own_block z).first z.numbers
    (list_index z.block z.point z.numbers z.inner z.index) f →
    Comes z.block.call.code c f (services_of (own_block z).first)
    (list_aims (own_block z) (own_block z).first.state.world.acts
    (end_index z.block z.point z.numbers z.inner z.index) c z.left')
    (M.list (at_line z.inner.around z.inner.head.line) z.inner.body z.block.call.surroundings.acts
    (own_block z).first.state)

pub record IsHere (z : Here) : Type 0 where
  pub begin : IsBegin z.block z.inner z.index z.more
  pub among : IsAmong z.block z.numbers z.point

-- its variables are made, and its labels stand in its code
pub record IsListed (z : Here) : Type 0 where
  pub made : AreMade z.block z.inner z.index z.point z.numbers
  pub marks :
      AreMarked z.block.call.surroundings.links (environment_of z.block z.inner) z.inner.body
      (list_index z.block z.point z.numbers z.inner z.index)
  pub few : AreFew z.block.call.surroundings (own_block z).first

-- ---- its code

abbrev pub ending_of : Here → Code
ending_of z = inner_ending_code (inner_layer z.block.call.surroundings z.point z.numbers z.inner)

abbrev pub behind_beginning : Here → Code
behind_beginning z = z.inner.variables ++ (list_code z.block z.inner ++ ending_of z)

abbrev pub whole_code : Here → Code
whole_code z = inner_code (inner_beginning z.block z.point z.numbers z.inner) ++ behind_beginning z

pub begin_coded :
    (z : Here) → IsBegin z.block z.inner z.index z.more →
    stmt_code z.block.environment none_taken (begin_of z.inner) ≡ act_code z.inner.head.line ++ whole_code z
begin_coded z h =
    let x = z.inner in
    let e = z.block.environment in
    let act' = act_code x.head.line in
    let frame : ℕ → Code = λ n. frame_begun n x.head.level 0 None in
    let enter = entered_without_texts 1 x.head.line in
    ap (λ n. act' ++ begin_code e x.head n (list_code z.block x)) h.words
    ∙ ap (λ u. act' ++ (move a0 frame_register ∷ (frame x.words ++ (enter ++ (u ++ (list_code z.block x ++
    (block_left 0 ++ frame_ended x.words))))))) h.variables
    ∙ ap (λ u. act' ++ (move a0 frame_register ∷ u)) (sym (append_assoc (frame x.words) enter (behind_beginning z)))

-- how many words it has, part by part
pub whole_size :
    (z : Here) → IsBegin z.block z.inner z.index z.more →
    size_in z.block (begin_of z.inner)
    ≡ size_of (act_code z.inner.head.line)
    + (beginning_size z.block z.point z.numbers z.inner
    + (size_of z.inner.variables + (size_of (list_code z.block z.inner) + size_of (ending_of z))))
whole_size z h =
    let x = z.inner in
    let y = inner_code (inner_beginning z.block z.point z.numbers x) in
    let e = ap (λ u. size_of u) (begin_coded z h) in
    let n0 = size_append (act_code x.head.line) (whole_code z) in
    let n1 = size_append y (behind_beginning z) in
    let n2 = size_append x.variables (list_code z.block x ++ ending_of z) in
    let n3 = size_append (list_code z.block x) (ending_of z) in
    omega (arith, e, n0, n1, n2, n3)

-- ---- its beginning

has_parent :
    {k : Block} {p : Point} (level : ℕ) → level ≡ suc k.call.beginning.layer.level → Newest k p →
    HasParent level (own_height k) p.state.activations
has_parent {k} {p} level e n =
    let a = n.activation in
    let as' = k.call.point.state.activations in
    let outer = k.call.beginning.layer.level in
    let height = n.height in
    subst (λ l. HasParent l (own_height k) p.state.activations) (sym e) (
      omega arith,
      subst (λ xs. height_of (ancestor xs (own_height k) outer) ≡ own_height k) (sym n.active)
          (subst (λ m. height_of (ancestor (a ∷ as') m outer) ≡ m) (omega (arith, height))
          (newest_ancestor a as' outer n.level)),
    )

newest_frame_at :
    {k : Block} {p : Point} → Newest k p →
    frame_at p.control.layers (own_height k) ≡ frame_under k.call.surroundings.parts p.control.layers
newest_frame_at {k} n =
    let parts = k.call.surroundings.parts in
    let φs = k.call.point.control.layers in
    let many = n.many in
    let same : own_height k ≡ suc (length φs) = omega (arith, many) in
    subst (λ ls. frame_at ls (own_height k) ≡ frame_under parts ls) (sym n.layers)
    (ap (λ q. cond q n.layer.at (frame_at φs (own_height k))) (eq-eqb (own_height k) (suc (length φs)) same))

pub layer_begins :
    (z : Here) → IsHere z →
    IsInner z.block.call.surroundings z.point z.numbers (inner_beginning z.block z.point z.numbers z.inner)
layer_begins z h =
    let k = z.block in
    let w = k.call.surroundings in
    let x = z.inner in
    let p = z.point in
    let n = newest_at h.begin.begun h.among in
    let idle = h.among.later.waiting ∙ h.begin.begun.resumes.idle in
    record {
      next = record {
        layer = record {
          level = refl;
          runs = refl;
          units = refl;
          parent = has_parent x.head.level h.begin.level n;
        };
        laid = record {
          above = refl;
          fixed = omega arith;
          falls = omega arith;
          free = subst (λ ls. upper_top w.parts ls + temporary_bytes x.words + fixed_size x.head.level 0
              ≤ lower_end w.parts ls) (sym h.among.later.layers) h.begin.room;
          saved = omega arith;
          told = λ n v e. absurd (cc e);
        };
        entries = ([], refl);
        edits = refl;
        over = h.among.stands.over;
      };
      entering = record {
        entered = ap (λ o. B.entered_of 1 p.control.line o) idle;
        given = refl;
        arguments = [];
        below = refl;
        many = refl;
        places = refl;
        units = refl;
      };
      shallow = subst (λ xs. nat_lt (length xs) most_activations ≡ true) (sym h.among.later.activations)
          h.begin.shallow;
      kind = refl;
      level = h.begin.few;
      line = h.begin.act.line_fits;
      back = omega arith;
      parent = newest_frame_at n;
      held = refl;
      saved = refl;
      waits = λ j. refl;
      told = λ j. refl;
      list = refl;
      top = refl;
      lower = refl;
    }

abbrev pub premises :
    (z : Here) → IsHere z →
    I.Premises z.block.call.surroundings z.block.call.code z.point z.numbers
    (inner_beginning z.block z.point z.numbers z.inner)
premises z h = record { stands = h.among.stands; image = h.among.image; is = layer_begins z h }

-- ---- its first statement

pub first_among : (z : Here) → IsHere z → AreMade z.block z.inner z.index z.point z.numbers →
    AreFew z.block.call.surroundings (own_block z).first → IsAmong (own_block z) z.numbers (own_block z).first
first_among z h m few =
    let known = m.stands (I.inner_stands (premises z h)) in
    record {
      stands = known.0;
      image = known.1;
      later = later_same (own_block z).first;
      few = few;
      entries = refl;
      others = h.among.others;
      words = h.among.words;
    }

pub first_begun : (z : Here) → IsHere z → AreMade z.block z.inner z.index z.point z.numbers →
    AreFew z.block.call.surroundings (own_block z).first → IsBegun (own_block z)
first_begun z h m few =
    let k = z.block in
    let w = k.call.surroundings in
    let b = h.begin.begun in
    let o = first_among z h m few in
    let same = m.acts in
    let after = h.among.later.acts in
    let first = b.acts in
    record {
      activation = m.activation;
      resumes = record {
        stands = o.stands;
        idle = m.idle;
        changed = m.changed;
        layers = m.layers;
        own = m.own;
        activations = m.activations;
        more = omega (arith, same);
      };
      acts = omega (arith, same, after, first);
      remains = m.remains (I.inner_stands (premises z h)).0;
      outer = (
        record {
          activation = b.activation;
          resumes = b.resumes;
          remains = b.remains;
          numbers = z.numbers;
          among = outer_among k z.labels [] b h.among;
        },
        b.outer,
      );
    }

-- ---- its end

closed_popped :
    (q : Point) (φ : Layer) (φs : List Layer) → q.control.layers ≡ φ ∷ φs → closed q.state ≡ (popped [] q).state
closed_popped q φ φs newest =
    by q.state.activations ∙ sym (ap (λ ls. (popped_from [] ls q).state) newest)
  where
    by : (as' : List Activation) → with_world q.state.world (without_newest as' q.state) ≡ without_newest as' q.state
    by [] = refl
    by (a ∷ as') = refl

abbrev pub debt_of : Here → ℕ
debt_of z = beginning_size z.block z.point z.numbers z.inner + size_of z.inner.variables + size_of (ending_of z)

abbrev pub goal_of : Here → (acts wanted : ℕ) → Aims (Unit {0})
goal_of z acts wanted =
    statement_aims z.block z.labels acts (z.index + size_in z.block (begin_of z.inner)) wanted z.left'

abbrev end_of : Here → Changed → (numbers : ℕ → ℕ) → BlockEnd
end_of z changed numbers =
    record {
      layer = resumed changed (inner_layer z.block.call.surroundings z.point z.numbers z.inner);
      others = z.point.control.layers;
      kept = [];
      before = numbers;
      after = numbers;
      index = end_index z.block z.point z.numbers z.inner z.index;
      back = end_index z.block z.point z.numbers z.inner z.index + size_of (ending_of z);
    }

-- behind it the block around goes on
popped_among :
    (z : Here) (h : IsHere z) (first : Point) → IsBegun (from_point (own_block z) first) → (numbers : ℕ → ℕ)
    (q : Point) → IsAmong (from_point (own_block z) first) numbers q → IsAmong z.block numbers (popped [] q)
popped_among z h first b numbers q o =
    let k = z.block in
    let w = k.call.surroundings in
    let r = resumes_among b o in
    let φ = inner_layer w z.point z.numbers z.inner in
    let idle = h.among.later.waiting ∙ h.begin.begun.resumes.idle in
    let known = E.left_below w k.call.code q (end_of z r.changed numbers) o.stands o.image r.layers in
    record {
      stands = known.0;
      image = known.1;
      later = later_then k.first z.point (popped [] q) h.among.later
          (left_later w z.point q z.point.state.world.acts b.activation φ [] h.among.stands (omega arith) refl idle
          (remains_then z.point first q b.remains o.later.remains) r);
      few = few_left w q [] o.few;
      entries = left_entries w q z.point.state.world.acts b.activation z.point.state.activations φ
          z.point.control.layers [] r
          ∙ h.among.entries;
      others = o.others;
      words = o.words;
    }

pub begin_ends :
    (z : Here) (h : IsHere z) (acts wanted c2 : ℕ) → acts ≤ z.point.state.world.acts →
    c2 ≡ beginning_size z.block z.point z.numbers z.inner + size_of z.inner.variables →
    Linked z.block.call.surroundings.links z.block.call.code (end_index z.block z.point z.numbers z.inner z.index)
    (ending_of z) → (c : ℕ) (f : Family) (v : Services) (s : State) →
    GoesBehind (own_block z) z.point.state.world.acts (end_index z.block z.point z.numbers z.inner z.index) c2 c f v
    s → (owing z.block.call.code (debt_of z) (goal_of z acts wanted)).done c f v tt (closed s)
begin_ends z h acts wanted c2 since size l c f v s behind =
    let k = z.block in
    let w = k.call.surroundings in
    let q = behind.goes in
    let b = behind.begun in
    let r = resumes_among b q.among in
    let e = end_of z r.changed q.numbers in
    let n = whole_size z h.begin in
    let more = q.since in
    let behind' = popped_among z h behind.first b q.numbers q.point q.among in
    let leaving : E.Leaving = record {
      surroundings = w;
      code = k.call.code;
      point = q.point;
      end = e;
      first = reached q.reach;
    } in
    let ends = E.inner_ends leaving
    (record {
      stands = q.among.stands;
      image = q.among.image;
      newest = r.layers;
      holds = record { saved = λ j less. absurd (omega (arith, less)); others = λ j more. refl };
      texts = KeepsNone e.layer.entries q.point.control.entries
          (stacks_over w q.point 0 e.layer e.others q.among.stands r.layers).0;
      there = reached_holds q.reach;
    }) c2 refl refl l in
    let later = left_later w z.point q.point z.point.state.world.acts b.activation
    (inner_layer w z.point z.numbers z.inner) [] h.among.stands (omega arith) refl
    (h.among.later.waiting ∙ h.begin.begun.resumes.idle)
    (remains_then z.point behind.first q.point b.remains q.among.later.remains) r in
    let acts' = later.acts in
    done_owing (statement_closed k z.labels acts (z.index + size_in k (begin_of z.inner)) wanted z.left') (debt_of z)
    wanted (omega (arith, size)) (reach_then q.reach ends) tt (closed s)
    (λ g at. record {
      point = popped [] q.point;
      numbers = q.numbers;
      among = behind';
      since = omega (arith, since, acts');
      state = ap closed q.state ∙ closed_popped q.point e.layer e.others r.layers;
      reach = stay k.call.code wanted g (services_of (popped [] q.point))
          (λ b' y. IsIn w (popped [] q.point) q.numbers (z.index + size_in k (begin_of z.inner)) b' y)
          (λ b'. subst (λ j. IsIn w (popped [] q.point) q.numbers j b' (g b')) (omega (arith, n)) (at b'));
    })

-- ---- the statement

pub leaves_by_jump :
    (z : Here) (acts c : ℕ) (f : Family) (v : Services) (height : ℕ) (label : Label) (s : State) →
    JumpsOut z.block.call.surroundings z.block.call.code (own_block z).outers acts c f v height label (closed s) →
    JumpsTo z.block z.labels acts c f v height label (closed s)
leaves_by_jump z acts c f v height label s q = record { to = q }

list_goes :
    (z : Here) (h : IsHere z) (m : IsListed z) (acts wanted c2 : ℕ) (f : Family) → acts ≤ z.point.state.world.acts →
    c2 ≡ beginning_size z.block z.point z.numbers z.inner + size_of z.inner.variables →
    Linked z.block.call.surroundings.links z.block.call.code (list_index z.block z.point z.numbers z.inner z.index)
    (list_code z.block z.inner ++ ending_of z) →
    ListGoes z → c2 + size_of (list_code z.block z.inner) ≤ cost z.block.call.code →
    AreIn z.block.call.surroundings (own_block z).first z.numbers
    (list_index z.block z.point z.numbers z.inner z.index) f →
    Comes z.block.call.code c2 f (services_of (own_block z).first)
    (within (owing z.block.call.code (debt_of z) (goal_of z acts wanted)))
    (M.list (at_line z.inner.around z.inner.head.line) z.inner.body z.block.call.surroundings.acts
    (own_block z).first.state)
list_goes z h m acts wanted c2 f since size l goes paid there =
    let k = z.block in
    let i = own_block z in
    let first = i.first.state.world.acts in
    let o = first_among z h m.made m.few in
    let b = first_begun z h m.made m.few in
    let enough = h.begin.enough in
    let turns = ap (λ a. a.turns) h.begin.around in
    let same = m.made.acts in
    let after = h.among.later.acts in
    let end = end_index k z.point z.numbers z.inner z.index in
    let owed = owing k.call.code (debt_of z) (goal_of z acts wanted) in
    let flow = M.list i.around z.inner.body k.call.surroundings.acts i.first.state in
    comes_map (list_aims i first end c2 z.left') (within owed) refl flow
    (λ c' f' v' r s q. begin_ends z h acts wanted c2 since size
    (back_of (list_code k z.inner) (ending_of z) l) c' f' v' s (fewer first same q))
    (λ c' f' v' height label s q i0 f0 v0 from. jumps_repaid {k = k} (debt_of z) from
    (jumps_since (omega (arith, since, same)) (leaves_by_jump z first c' f' v' height label s q)))
    (λ c' f' v' r s q i0 f0 v0 from. returns_repaid {k = k} (debt_of z) from (record { to = q.to }))
    (goes b o (omega (arith, enough, turns, same, after)) m.marks (front_of (list_code k z.inner) (ending_of z) l) c2 f
    paid there)
  where
    fewer :
        {c' : ℕ} {f' : Family} {v' : Services} {s : State} {end : ℕ} (first : ℕ) →
        (own_block z).first.state.world.acts ≡ z.point.state.world.acts →
        GoesBehind (own_block z) (own_block z).first.state.world.acts end c2 c' f' v' s →
        GoesBehind (own_block z) z.point.state.world.acts end c2 c' f' v' s
    fewer {c'} {f'} {v'} {s} {end} first e q =
        subst (λ n. GoesBehind (own_block z) n end c2 c' f' v' s) e q

begin_goes :
    (z : Here) (h : IsHere z) (m : IsListed z) (acts wanted : ℕ) (f : Family) → acts ≤ z.point.state.world.acts →
    Linked z.block.call.surroundings.links z.block.call.code (entry_index z.inner z.index) (whole_code z) →
    ListGoes z → debt_of z + size_of (list_code z.block z.inner) ≤ cost z.block.call.code →
    AreIn z.block.call.surroundings z.point z.numbers (entry_index z.inner z.index) f →
    Comes z.block.call.code 0 f (services_of z.point)
    (owing z.block.call.code (debt_of z) (goal_of z acts wanted))
    (behind_act z.block.around z.inner.head z.inner.body z.block.call.surroundings.acts z.point.state)
unfolding ◌>>◌
begin_goes z h m acts wanted f since l goes paid there =
    let k = z.block in
    let w = k.call.surroundings in
    let x = z.inner in
    let y = inner_beginning k z.point z.numbers x in
    let start = begun_in k z.point z.numbers x in
    let owed = owing k.call.code (debt_of z) (goal_of z acts wanted) in
    let closed' = within_closed (owing_closed k.call.code (debt_of z) (goal_of z acts wanted)) in
    let size = 0 + beginning_size k z.point z.numbers x in
    let around' = at_line x.around x.head.line in
    let flow = list_of x.around x.head x.body w.acts start.state in
    let listed : Unit {0} → Meaning (Unit {0}) = λ q. M.list around' x.body in
    let l1 = back_of (inner_code y) (behind_beginning z) l in
    let new = I.inner_stands (premises z h) in
    subst (Comes k.call.code 0 f (services_of z.point) owed)
    (sym (begin_means k.around x.around x.head x.body z.more (own_height k) w.acts z.point.state h.begin.enter
    h.begin.around (newest_own (newest_at h.begin.begun h.among)) h.begin.kind
    (subst (λ xs. nat_lt (length xs) most_activations ≡ true) (sym h.among.later.activations) h.begin.shallow)))
    (comes_passed w.acts flow
    (onward closed' (I.inner_begins 0 (entry_index x z.index) f (premises z h)
    (front_of (inner_code y) (behind_beginning z) l) there)
    (λ g at.
    subst (λ u. Comes k.call.code size g (services_of start) (within owed) (flow_on w.acts u listed))
    (sym m.made.means)
    (onward closed' (m.made.comes size g new
    (front_of x.variables (list_code k x ++ ending_of z) l1) at)
    (λ g' at'.
    list_goes z h m acts wanted (size + size_of x.variables) g' since (omega arith)
    (back_of x.variables (list_code k x ++ ending_of z) l1) goes (omega (arith, paid)) at')))))

pub begin_comes :
    (k : Block) (labels : List Label) (x : Inner) (index left' more : ℕ) → IsBegin k x index more →
    ((p : Point) (numbers : ℕ → ℕ) → IsAmong k numbers p → k.first.state.world.acts < p.state.world.acts →
    AreMade k x index p numbers
    × AreMarked k.call.surroundings.links (environment_of k x) x.body (list_index k p numbers x index)) →
    ((p : Point) (numbers : ℕ → ℕ) → IsAmong k numbers p → k.first.state.world.acts < p.state.world.acts →
    ListGoes (here_of k labels x index left' more p numbers)) → Does k labels (begin_of x) index left'
unfolding M.statement ◌>>=◌ ◌>>◌
begin_comes k labels x index left' more h made' goes p numbers c wanted f o paid there =
    let w = k.call.surroundings in
    let p' = acted x.head.line p in
    let z = here_of k labels x index left' more p' numbers in
    let one = act_code x.head.line in
    let l = subst (Linked w.links k.call.code index) (begin_coded z h) h.statement in
    let n = whole_size z h in
    let acts = p.state.world.acts in
    let goal = goal_of z acts wanted in
    let next' : Unit {0} → Meaning (Unit {0}) = λ u. behind_act k.around x.head x.body in
    comes_early w refl there
    (λ early.
    comes_owing (debt_of z) (M.statement k.around (begin_of x) w.acts p.state)
    (comes_on w.acts (act counted w.acts p.state) next'
    (act_comes (before_closed w.acts next' (owing_closed k.call.code (debt_of z) goal)) x.head.line (c + debt_of z) 0 f
    (o.stands, o.image) (h.act.line_fits, h.act.acts, omega (arith, paid, n)) (front_of one (whole_code z) l) there
    (λ g less at.
    let o' = acted_among x.head.line o less in
    let since = o.later.acts in
    let later : k.first.state.world.acts < p'.state.world.acts = omega (arith, since) in
    let m = made' p' numbers o' later in
    let same = m.0.acts in
    let few = few_made w p (own_block z).first early m.0.few less in
    begin_goes z (record { begin = h; among = o' }) (record { made = m.0; marks = m.1; few = few }) acts wanted g
    (omega arith)
    (back_of one (whole_code z) l) (goes p' numbers o' later) (omega (arith, paid, n)) at))))

-- a jump that no list of the block catches leaves it
pub out_of_all :
    {k : Block} {acts c height : ℕ} {f : Family} {v : Services} {label : Label} {s : State} →
    JumpsTo k [] acts c f v height label s →
    JumpsOut k.call.surroundings k.call.code k.outers acts c f v height label (closed s)
out_of_all {k} {acts} {c} {height} {f} {v} {label} {s} q = by q.to
  where
    by :
        LandsAt k [] acts c f v height label s
        ⊎ JumpsOut k.call.surroundings k.call.code k.outers acts c f v height label (closed s) →
        JumpsOut k.call.surroundings k.call.code k.outers acts c f v height label (closed s)
    by (inl here) = absurd (cc here.carried)
    by (inr out) = out

pub begin_does :
    (k : Block) (labels : List Label) (x : Inner) (index left' more : ℕ) → IsBegin k x index more →
    ((p : Point) (numbers : ℕ → ℕ) → IsAmong k numbers p → k.first.state.world.acts < p.state.world.acts →
    AreMade k x index p numbers
    × AreMarked k.call.surroundings.links (environment_of k x) x.body (list_index k p numbers x index)) →
    ((p : Point) (numbers : ℕ → ℕ) → IsAmong k numbers p → k.first.state.world.acts < p.state.world.acts →
    IsBegun (inner_block k labels p numbers x index) →
    EachDoes (inner_block k labels p numbers x index) (M.labels_in x.body ++ []) x.body
    (list_index k p numbers x index) left') → Does k labels (begin_of x) index left'
begin_does k labels x index left' more h made' each =
    begin_comes k labels x index left' more h made'
    (λ p numbers o later.
    let z = here_of k labels x index left' more p numbers in
    let i = own_block z in
    let acts = i.first.state.world.acts in
    let end = end_index k p numbers x index in
    λ b o' enough marks l c f paid there.
    comes_map (statement_aims i [] acts end c left') (list_aims i acts end c left') refl
    (M.list i.around x.body k.call.surroundings.acts i.first.state)
    (λ c' f' v' r s q. record { first = i.first; begun = b; goes = q })
    (λ c' f' v' height label s q. out_of_all q)
    (λ c' f' v' r s q. q)
    (list_does i [] x.body (list_index k p numbers x index) left' i.first numbers c c f b enough
    (each p numbers o later b) marks o' l (omega arith, paid) there))

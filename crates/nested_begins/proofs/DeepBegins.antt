-- Where as many blocks are active as may be BEGIN ends the run.
use Rattle.std.proofs.Common.{◌≡◌, ℕ, suc, ◌+◌, ◌≤◌, List, [], ◌∷◌, ◌++◌, length, None, Option, Bool, true, false}
use Rattle.std.proofs.Common.{refl, sym, ap, ◌∙◌, subst, arith}
use Rattle.std.proofs.lemmas.Bool.{eq-eqb}
use Rattle.std.proofs.lemmas.List.{append_assoc}
use Rattle.std.specs.Prelude.{cond, nat_lt}
use Rattle.pli_typing.specs.TypedTree as Y
use Rattle.pli_meaning.specs.BasicValues.{BasicValue}
use Rattle.pli_meaning.specs.Control as F
use Rattle.pli_meaning.specs.Control.{Flow, Label, Meaning, act, finish, flow_on, give, looked, ◌>>=◌, ◌>>◌}
use Rattle.pli_meaning.specs.Executing as M
use Rattle.pli_meaning.specs.Executing.{begun}
use Rattle.pli_meaning.specs.Raising.{Around, Entry}
use Rattle.pli_meaning.specs.StorageState.{State, ancestor, height_of, most_activations, newest_height}
use Rattle.pli_meaning.specs.StorageState.{with_world}
use Rattle.pli_meaning.specs.World.{counted, ending}
use Rattle.pli_meaning.specs.declared.outcome.End.{End}
use Rattle.pli_meaning.specs.declared.outcome.End.TheVariants as E
use Rattle.pli_meaning.specs.declared.outcome.Limit.TheVariants as L
use Rattle.pli_serving.specs.Blocks as B
use Rattle.pli_coding.specs.Allocating.{act_code}
use Rattle.pli_coding.specs.Assembly.{Code, size_of}
use Rattle.pli_coding.specs.Entries.{block_left, entered_without_texts, frame_begun, frame_ended}
use Rattle.pli_coding.specs.Environments.{none_taken}
use Rattle.pli_coding.specs.Frames.{fixed_size, temporary_bytes}
use Rattle.pli_coding.specs.Instructions.{move}
use Rattle.pli_coding.specs.Registers.{a0, frame_register}
use Rattle.pli_coding.specs.Statements.{begin_code, stmt_code}
use Rattle.activation_relation.specs.Chains.{HasParent, frame_at}
use Rattle.activation_relation.specs.Frames.{frame_under, lower_end, upper_top}
use Rattle.activation_relation.specs.Layers.{Point, services_of}
use Rattle.run_steps.specs.Items.{Linked}
use Rattle.run_steps.proofs.Jumps.{back_of, front_of}
use Rattle.run_steps.proofs.Linking.{size_append}
use Rattle.run_steps.specs.Reach.{Comes}
use Rattle.run_steps.proofs.Reach.{before_closed, comes_on}
use Rattle.block_runs.specs.InnerBeginnings.{inner_code}
use Rattle.block_runs.specs.Machines.{acted}
use Rattle.block_runs.proofs.PointActs.{act_comes}
use Rattle.program_runs.specs.Statements.{Block, Does, IsAmong, own_height, size_in, statement_aims}
use Rattle.program_runs.proofs.NewestBlocks.{Newest, newest_ancestor, newest_at}
use Rattle.program_runs.proofs.Statements.{acted_among, statement_closed}
use Rattle.begin_runs.specs.BeginBlocks.{Inner, begin_of, inner_beginning, list_code}
use Rattle.begin_runs.proofs.Meaning.{behind_act}
use Rattle.nested_calls.proofs.DeepCalls.{deep_means}
use Rattle.nested_begins.specs.DeepBegins.{IsDeepBegin}
use Rattle.nested_begins.proofs.DeepBlocks.{Premises, deep_inner_ends}

-- ---- what it means

finish_by :
    {A B : Type 0} (q : Bool) (end : End) (k : ℕ) (s : State) (next : A → Meaning B) →
    flow_on k (cond q (F.Ended (with_world (ending end s.world) s)) (F.Paused s)) next
    ≡ cond q (F.Ended (with_world (ending end s.world) s)) (F.Paused s)
finish_by true end k s next = refl
finish_by false end k s next = refl

pub finish_on :
    {A B : Type 0} (end : End) (k : ℕ) (s : State) (next : A → Meaning B) →
    flow_on k (finish {R = A} end k s) next ≡ finish {R = B} end k s
unfolding finish
finish_on end k s next = finish_by (nat_lt s.world.acts k) end k s next

deep_begin_means :
    (around : Around) (head : Y.BlockHead) (body : Y.Stmts) (more k : ℕ) (s : State) →
    around.enter ≡ M.entered around.program (suc more) → nat_lt (length s.activations) most_activations ≡ false →
    behind_act around head body k s ≡ finish (E.Limit L.Depth) k s
unfolding M.entered looked ◌>>=◌ ◌>>◌
deep_begin_means around head body more k s enter deep =
    let block = Y.BlockOf head body in
    let on : Flow (Option BasicValue) → Flow (Unit {0}) = λ flow. flow_on k flow (λ r. give tt) in
    let inner : Around = record {
      program = around.program;
      enter = M.entered around.program more;
      turns = suc more;
      line = 0;
    } in
    ap (λ (enters : Entry → Meaning (Option BasicValue)). on (enters (begun block (newest_height s.activations)) k s))
    enter
    ∙ ap on (deep_means inner head body (begun block (newest_height s.activations)) k s deep)
    ∙ finish_on (E.Limit L.Depth) k s (λ r. give tt)

-- ---- its code

abbrev behind_beginning : Block → Inner → Code
behind_beginning k x = x.variables ++ (list_code k x ++ (block_left 0 ++ frame_ended x.words))

pub begin_coded :
    (k : Block) (x : Inner) (index more : ℕ) (p : Point) (numbers : ℕ → ℕ) → IsDeepBegin k x index more →
    stmt_code k.environment none_taken (begin_of x)
    ≡ act_code x.head.line ++ (inner_code (inner_beginning k p numbers x) ++ behind_beginning k x)
begin_coded k x index more p numbers h =
    let e = k.environment in
    let act' = act_code x.head.line in
    let frame : ℕ → Code = λ n. frame_begun n x.head.level 0 None in
    let enter = entered_without_texts 1 x.head.line in
    ap (λ n. act' ++ begin_code e x.head n (list_code k x)) h.words
    ∙ ap (λ u. act' ++ (move a0 frame_register ∷ (frame x.words ++ (enter ++ (u ++ (list_code k x ++
    (block_left 0 ++ frame_ended x.words))))))) h.variables
    ∙ ap (λ u. act' ++ (move a0 frame_register ∷ u)) (sym (append_assoc (frame x.words) enter (behind_beginning k x)))

-- ---- what is entered

has_parent :
    {k : Block} {p : Point} (level : ℕ) → level ≡ suc k.call.beginning.layer.level → Newest k p →
    HasParent level (own_height k) p.state.activations
has_parent {k} {p} level e n =
    let a = n.activation in
    let as' = k.call.point.state.activations in
    let outer = k.call.beginning.layer.level in
    let height = n.height in
    subst (λ l. HasParent l (own_height k) p.state.activations) (sym e) (
      omega arith,
      subst (λ xs. height_of (ancestor xs (own_height k) outer) ≡ own_height k) (sym n.active)
          (subst (λ m. height_of (ancestor (a ∷ as') m outer) ≡ m) (omega (arith, height))
          (newest_ancestor a as' outer n.level)),
    )

newest_frame_at :
    {k : Block} {p : Point} → Newest k p →
    frame_at p.control.layers (own_height k) ≡ frame_under k.call.surroundings.parts p.control.layers
newest_frame_at {k} n =
    let parts = k.call.surroundings.parts in
    let φs = k.call.point.control.layers in
    let many = n.many in
    let same : own_height k ≡ suc (length φs) = omega (arith, many) in
    subst (λ ls. frame_at ls (own_height k) ≡ frame_under parts ls) (sym n.layers)
    (ap (λ q. cond q n.layer.at (frame_at φs (own_height k))) (eq-eqb (own_height k) (suc (length φs)) same))

deep_premises :
    (k : Block) (x : Inner) (index more : ℕ) (p : Point) (numbers : ℕ → ℕ) → IsDeepBegin k x index more →
    IsAmong k numbers p → Premises k.call.surroundings k.call.code p numbers (inner_beginning k p numbers x)
deep_premises k x index more p numbers h o =
    let w = k.call.surroundings in
    let n = newest_at h.begun o in
    let idle = o.later.waiting ∙ h.begun.resumes.idle in
    record {
      stands = o.stands;
      image = o.image;
      is = record {
        next = record {
          layer = record {
            level = refl;
            runs = refl;
            units = refl;
            parent = has_parent x.head.level h.level n;
          };
          laid = record {
            above = refl;
            fixed = omega arith;
            falls = omega arith;
            free = subst (λ ls. upper_top w.parts ls + temporary_bytes x.words + fixed_size x.head.level 0
                ≤ lower_end w.parts ls) (sym o.later.layers) h.room;
            saved = omega arith;
            told = λ n v e. absurd (cc e);
          };
          entries = ([], refl);
          edits = refl;
          over = o.stands.over;
        };
        entering = record {
          entered = ap (λ q. B.entered_of 1 p.control.line q) idle;
          given = refl;
          arguments = [];
          below = refl;
          many = refl;
          places = refl;
          units = refl;
        };
        full = subst (λ xs. nat_lt (length xs) most_activations ≡ false) (sym o.later.activations) h.deep;
        kind = refl;
        level = h.few;
        line = h.act.line_fits;
        back = omega arith;
        parent = newest_frame_at n;
        held = refl;
        saved = refl;
        waits = λ j. refl;
        told = λ j. refl;
        list = refl;
        top = refl;
        lower = refl;
      };
    }

-- ---- the statement

pub deep_begin_ends :
    (k : Block) (labels : List Label) (x : Inner) (index left' more : ℕ) → IsDeepBegin k x index more →
    Does k labels (begin_of x) index left'
unfolding M.statement ◌>>=◌ ◌>>◌
deep_begin_ends k labels x index left' more h p numbers c wanted f o paid there =
    let w = k.call.surroundings in
    let p' = acted x.head.line p in
    let one = act_code x.head.line in
    let begins = inner_code (inner_beginning k p' numbers x) in
    let rest = behind_beginning k x in
    let eq = begin_coded k x index more p' numbers h in
    let l = subst (Linked w.links k.call.code index) eq h.statement in
    let n0 = size_append one (begins ++ rest) in
    let n1 = size_append begins rest in
    let size = ap (λ u. size_of u) eq in
    let acts = p.state.world.acts in
    let end = index + size_in k (begin_of x) in
    let closed = statement_closed k labels acts end wanted left' in
    let tail : Unit {0} → Meaning (Unit {0}) = λ u. behind_act k.around x.head x.body in
    comes_on w.acts (act counted w.acts p.state) tail
    (act_comes (before_closed w.acts tail closed) x.head.line c 0 f (o.stands, o.image)
    (h.act.line_fits, h.act.acts, omega (arith, paid, n0, size)) (front_of one (begins ++ rest) l) there
    (λ g less at.
    let o' = acted_among x.head.line o less in
    subst (Comes k.call.code 0 g (services_of p') (statement_aims k labels acts end wanted left'))
    (sym (deep_begin_means k.around x.head x.body more w.acts p'.state h.enter
    (subst (λ xs. nat_lt (length xs) most_activations ≡ false) (sym o'.later.activations) h.deep)))
    (deep_inner_ends closed 0 (index + size_of one) g (deep_premises k x index more p' numbers h o')
    (front_of begins rest (back_of one (begins ++ rest) l)) (omega (arith, paid, n0, n1, size), h.act.acts) at)))

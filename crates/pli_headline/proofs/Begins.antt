-- BEGIN blocks that declare nothing, in the main procedure and in one another.
use Rattle.std.proofs.Common.{◌≡◌, ℕ, zero, suc, ◌+◌, ◌*◌, ◌^◌, ◌<◌, ◌≤◌, List, [], ◌∷◌, ◌++◌, inr, length, None, Option, Bool, true, false, refl, sym, ap, ◌∙◌, subst, arith}
use Rattle.std.proofs.lemmas.Bool.{ltb-true}
use Rattle.std.specs.Prelude.{max, nat_lt}
use Rattle.rv_meaning.specs.declared.instr.Instr.{Instr}
use Rattle.pli_typing.specs.TypedTree as Y
use Rattle.pli_meaning.specs.declared.outcome.End.TheVariants as E
use Rattle.pli_meaning.specs.declared.outcome.Limit.TheVariants as L
use Rattle.rv_meaning.specs.declared.instr.Instr.TheVariants as I
use Rattle.pli_meaning.specs.World.{counted}
use Rattle.pli_meaning.specs.BasicValues.{BasicValue}
use Rattle.pli_meaning.specs.DeclaredShapes.{variables_of_block}
use Rattle.pli_meaning.specs.StorageState.{State, with_world, newest_ended, most_activations, newest_height}
use Rattle.pli_meaning.specs.Control as F
use Rattle.pli_meaning.specs.Control.{Label, is_among, Flow, Normal, Jump, Return, Paused, Stuck, Meaning, left, give, act, ◌>>◌, finish}
use Rattle.pli_meaning.specs.Raising.{Around}
use Rattle.pli_meaning.specs.Executing as M
use Rattle.pli_serving.specs.ServiceState.{Services}
use Rattle.pli_coding.specs.Registers.{frame_register, a0, a2, a7}
use Rattle.pli_coding.specs.Assembly.{Code, size_of, Plain}
use Rattle.pli_coding.specs.Instructions.{move, small, number}
use Rattle.pli_coding.specs.Allocating.{act_code}
use Rattle.pli_coding.specs.Entries.{frame_begun, entered_without_texts, variables_made}
use Rattle.pli_coding.specs.Environments.{Environment, in_frame, none_taken}
use Rattle.pli_coding.specs.Frames.{fixed_size, temporary_bytes}
use Rattle.pli_coding.specs.Statements.{begin_environment, begin_code, block_words, stmt_code, stmts_code}
use Rattle.pli_coding.specs.Linking.{Links}
use Rattle.pli_coding.specs.Entries.{variables_take}
use Rattle.pli_headline.specs.ProvedSoFar.{Names, Types, OuterBlock}
use Rattle.pli_headline.proofs.HeldPlaces.{places_entered, PlacesHeld, places_left}
use Rattle.pli_headline.proofs.Storages.{storage}
use Rattle.run_steps.specs.Engine.{Base, address}
use Rattle.run_steps.proofs.Linking.{size_append}
use Rattle.run_steps.specs.Items.{Linked, At}
use Rattle.run_steps.specs.Bodies.{Known}
use Rattle.run_steps.proofs.Jumps.{front_of, back_of}
use Rattle.run_steps.specs.Temporaries.{nothing}
use Rattle.pli_headline.proofs.Activations.{same_length, newest_is, entered_length}
use Rattle.pli_headline.proofs.Serving.{Serving}
use Rattle.pli_headline.proofs.Acts.{act_piece, acted}
use Rattle.pli_headline.proofs.Entered.{atop, begin_way}
use Rattle.pli_headline.proofs.Statements.{owner_level, Enclosures, Block, IsFilled, AllHold, listed_of, counted_all, IsMarkedOnce, OutletOf, Outlets, OwnExit, HomeOf, Homes, Enough, Does}
use Rattle.pli_headline.proofs.InnerFrames.{Inner, inner_levels, inner_ground, inner_own, inner_outers, inner_block}
use Rattle.pli_headline.proofs.BeginFrames.{inner_begun, inner_frame}
use Rattle.pli_headline.proofs.BeginEntered.{entered_activation, entered_services, ended_services, inner_ended, inner_entered, inner_left, inner_limited}
use Rattle.pli_headline.proofs.BeginMeant.{Entering, inner_around, begin_part, inner_part, begin_meant, entered_state, entered_nested, entered_all, ended_input, left_all, begin_limited, Outside}
use Rattle.run_steps.specs.Reach.{Family, Aims, Comes, Closed}
use Rattle.run_steps.proofs.Reach.{before_closed, comes_on, onward}
use Rattle.pli_headline.proofs.Scalars.{Values}
use Rattle.pli_headline.specs.InnerWords.{body_words}

-- ---- the end of the block

-- a jump or a return goes on outside, once the block's activation ended
abbrev pub ending_block : Aims (Option BasicValue) → (State → State) → Aims (Unit {0})
ending_block aims close =
    record {
      limits = aims.limits;
      done = λ i f v x s. aims.done i f v None (with_world s.world (close s));
      jumped = λ i f v height label s. aims.jumped i f v height label (with_world s.world (close s));
      returned = λ i f v x s. aims.returned i f v x (with_world s.world (close s));
    }

pub ending_closed : {code : List Instr} {aims : Aims (Option BasicValue)} (close : State → State) → Closed code aims → Closed code (ending_block aims close)
ending_closed close closed =
    record {
      done = λ r x s a. closed.done r None (with_world s.world (close s)) a;
      jumped = λ r height label s a. closed.jumped r height label (with_world s.world (close s)) a;
      returned = λ r x s a. closed.returned r x (with_world s.world (close s)) a;
    }

pub comes_ended : {code : List Instr} {i : ℕ} {f : Family} {v : Services} {aims : Aims (Option BasicValue)} (close : State → State) (flow : Flow (Unit {0})) → Comes code i f v (ending_block aims close) flow → Comes code i f v aims (left false close flow)
comes_ended close (Normal x s) c = record { to = c.to }
comes_ended close (Jump height label s) c = record { to = c.to }
comes_ended close (Return x s) c = record { to = c.to }
comes_ended close (F.Ended s) c = record { to = c.to }
comes_ended close (Paused s) c = record { to = c.to }
comes_ended close Stuck c = record { to = c.to }

-- ---- the code

-- behind its act
abbrev inner_code : Environment → Y.BlockHead → (words : ℕ) → Y.Stmts → Code
inner_code e head words body =
    inner_begun words (suc e.level)
    ++ (entered_without_texts 1 head.line ++ (stmts_code (begin_environment head e) none_taken body ++ inner_ended words))

inner_code_is : (e : Environment) (head : Y.BlockHead) (body : Y.Stmts) → head.level ≡ suc e.level
    → variables_of_block e.program head.number ≡ []
    → begin_code e head (block_words e head.number body)
    (stmts_code (begin_environment head e) none_taken body) ≡ inner_code e head (max 0 (body_words body)) body
inner_code_is e head body next none =
    let e' = begin_environment head e in
    let code = stmts_code e' none_taken body in
    let enter = entered_without_texts 1 head.line in
    ap (λ ds. inner_begun_at head.level (max (variables_take ds).words (body_words body))
    (enter ++ (variables_made e' head.line 0 ds ++
    (code ++ inner_ended (max (variables_take ds).words (body_words body)))))) none
    ∙ ap (λ level. inner_begun_at level (max 0 (body_words body))
    (enter ++ (code ++ inner_ended (max 0 (body_words body))))) next
  where
    inner_begun_at : (level words : ℕ) → Code → Code
    inner_begun_at level words behind = (move a0 frame_register ∷ frame_begun words level 0 None) ++ behind

-- ---- what it does

pub by_test : {A : Type 0} (q : Bool) → (q ≡ false → A) → (q ≡ true → A) → A
by_test true other same = same refl
by_test false other same = other refl

-- where its frame lies, and how much more the frame takes
pub inner_room : (free words level : ℕ) → level < 100 → free + 4 * words + 700 ≤ 14 * 2 ^ 20 → free + temporary_bytes words + fixed_size (suc level) 0 + 4 ≤ 14 * 2 ^ 20
inner_room free words level few room = omega (arith, few, room)

abbrev pub inner_of : {e : Environment} {block : Names} {types : Types} (bl : Block e block types) (words : ℕ) → e.level < 100 → bl.stack.free + 4 * words + 700 ≤ 14 * 2 ^ 20 → Inner bl
inner_of {e} bl words few room =
    record { words = words; at = bl.stack.free + temporary_bytes words; place = refl; room = inner_room bl.stack.free words e.level few room }

-- a jump out of it goes on at the block around, or further out, and so does a return
abbrev pub ended_jump : (ℕ → Family → Services → ℕ → Label → State → Type 0) → ℕ → Family → Services → ℕ → Label → State → Type 0
ended_jump jumped i f v height label s = jumped i f v height label (with_world s.world (newest_ended s))

abbrev pub ended_return : (ℕ → Family → Services → Option BasicValue → State → Type 0) → ℕ → Family → Services → Option BasicValue → State → Type 0
ended_return returned i f v x s = returned i f v x (with_world s.world (newest_ended s))

-- to a label of the block in which it stands
pub own_outlet : {e : Environment} {block : Names} {types : Types} (bl : Block e block types) (inner : Inner bl) (number level : ℕ) (next : level ≡ suc e.level) (filled : IsFilled bl) {links : Links} {k turns i : ℕ} {h : ℕ → ℕ} (t : ℕ → ℕ) {acts acts' : ℕ} {jumped : ℕ → Family → Services → ℕ → Label → State → Type 0} {returned : ℕ → Family → Services → Option BasicValue → State → Type 0} → Enough bl links k turns i h t acts jumped returned → (label : Label) → is_among label bl.labels ≡ true → IsMarkedOnce links e.block label → acts ≤ acts' → OutletOf (atop inner.at begin_way bl.frames) (inner_own bl inner t number level next filled) links k acts' (ended_jump jumped) label
own_outlet {e} {block} {types} bl inner number level next filled {k = k} {h = h} t ready label among once less =
    let o = ready.jumps label among once in
    record {
      at = o.at;
      place = o.place;
      near = o.near;
      later = o.later;
      lands = λ s v line n h' f serving all acted' at'.
          let s1 = with_world s.world (newest_ended s) in
          o.lands s1 v line n h' t f serving
          (listed_of bl.frames (bl.stack.frame ∷ bl.lead) bl.leads all)
          (record { registers = λ r below. absurd (let held = bl.held in omega (arith, held, below)); words = λ j below. refl })
          (omega (arith, less, acted')) at';
    }

pub outer_outlets : {e : Environment} {block : Names} {types : Types} (bl : Block e block types) (inner : Inner bl) (t : ℕ → ℕ) (number level : ℕ) (next : level ≡ suc e.level) (links : Links) (k acts acts' : ℕ) (jumped : ℕ → Family → Services → ℕ → Label → State → Type 0) → acts ≤ acts' → (os : List OuterBlock) (cs : Enclosures e bl.ground bl.levels bl.frames.list (e.level ∷ bl.depths) os) → Outlets e bl.ground bl.levels bl.frames (e.level ∷ bl.depths) os cs links k acts jumped → Outlets (in_frame number level e) (inner_ground bl inner t) (inner_levels bl) (atop inner.at begin_way bl.frames) (level ∷ e.level ∷ bl.depths) os (inner_outers bl inner t number level next os cs) links k acts' (ended_jump jumped)
outer_outlets bl inner t number level next links k acts acts' jumped less [] cs outs = tt
outer_outlets bl inner t number level next links k acts acts' jumped less (o ∷ os) cs outs = (
  λ label among once.
      let p = outs.0 label among once in
      record {
        at = p.at;
        place = p.place;
        near = p.near;
        later = p.later;
        lands = λ s v line n h' f serving all acted' at'. p.lands (with_world s.world (newest_ended s)) v line n h' f serving all (omega (arith, less, acted')) at';
      },
  outer_outlets bl inner t number level next links k acts acts' jumped less os cs.1 outs.1,
)

-- a return goes on at the end of the block in which it stands, or further out
pub own_home : {e : Environment} {block : Names} {types : Types} (bl : Block e block types) (inner : Inner bl) (number level : ℕ) (next : level ≡ suc e.level) (filled : IsFilled bl) {links : Links} {k : ℕ} (t : ℕ → ℕ) {returned : ℕ → Family → Services → Option BasicValue → State → Type 0} → OwnExit e block types bl.ground bl.frames bl.serials bl.depths links k returned → HomeOf (atop inner.at begin_way bl.frames) (inner_own bl inner t number level next filled) links k (ended_return returned)
own_home {e} {block} {types} bl inner number level next filled t o =
    record {
      at = o.at;
      place = o.place;
      near = o.near;
      later = o.later;
      leaves = λ s v line n h' f free serving all at'.
          let s1 = with_world s.world (newest_ended s) in
          o.leaves s1 v line n h' t f free serving
          (listed_of bl.frames (bl.stack.frame ∷ bl.lead) bl.leads all)
          at';
    }

pub outer_homes : {e : Environment} {block : Names} {types : Types} (bl : Block e block types) (inner : Inner bl) (t : ℕ → ℕ) (number level : ℕ) (next : level ≡ suc e.level) (links : Links) (k : ℕ) (returned : ℕ → Family → Services → Option BasicValue → State → Type 0) (os : List OuterBlock) (cs : Enclosures e bl.ground bl.levels bl.frames.list (e.level ∷ bl.depths) os) → Homes e bl.ground bl.levels bl.frames (e.level ∷ bl.depths) os cs links k returned → Homes (in_frame number level e) (inner_ground bl inner t) (inner_levels bl) (atop inner.at begin_way bl.frames) (level ∷ e.level ∷ bl.depths) os (inner_outers bl inner t number level next os cs) links k (ended_return returned)
outer_homes bl inner t number level next links k returned [] cs homes = tt
outer_homes bl inner t number level next links k returned (o ∷ os) cs homes = (
  λ deep owned once.
      let p = homes.0 deep owned once in
      record {
        at = p.at;
        place = p.place;
        near = p.near;
        later = p.later;
        leaves = λ s v line n h' f free serving all at'. p.leaves (with_world s.world (newest_ended s)) v line n h' f free serving all at';
      },
  outer_homes bl inner t number level next links k returned os cs.1 homes.1,
)

-- behind its act
inner_piece : {e : Environment} {block : Names} {types : Types} (bl : Block e block types) {links : Links} {code : List Instr} (around : Around) (more : ℕ) (head : Y.BlockHead) (body : Y.Stmts) (inner : Inner bl) → owner_level e.owner ≤ e.level → e.level < 100 → (next : head.level ≡ suc e.level) (filled : IsFilled bl) → head.kind ≡ Y.BeginBlock → head.line < 2 ^ 31 → variables_of_block e.program head.number ≡ [] → around.enter ≡ M.entered e.program (suc more) → ((t0 : ℕ → ℕ) → Does (inner_block bl inner t0 head.number head.level next filled) links code (suc more) (stmts_code (begin_environment head e) none_taken body) (M.list (inner_around e.program more head.line) body)) → {i : ℕ} {s : State} {v : Services} {h t : ℕ → ℕ} {aims : Aims (Unit {0})} (closed : Closed code aims) (n : Values) (f : Family) (k line : ℕ) → k < suc more + v.world.acts → 10 ≤ i → {turns0 i0 acts0 : ℕ} → Enough bl links k turns0 i0 h t acts0 aims.jumped aims.returned → acts0 ≤ v.world.acts → Linked links code i (inner_code e head inner.words body) → nat_lt (length s.activations) most_activations ≡ true → Serving k s v line → AllHold bl.frames bl.serials (storage v) (e.level ∷ bl.depths) s block types n → ((b : Base) → At b i (Known (bl.ground n) v h t nothing b) (f b)) → ((s' : State) (v' : Services) (line' : ℕ) (n' : Values) (h' : ℕ → ℕ) (f' : Family) → Serving k s' v' line' → AllHold bl.frames bl.serials (storage v') (e.level ∷ bl.depths) s' block types n' → ((b : Base) → At b (i + size_of (inner_code e head inner.words body)) (Known (bl.ground n') v' h' t nothing b) (f' b)) → aims.done (i + size_of (inner_code e head inner.words body)) f' v' tt s') → Comes code i f v aims (begin_part around head body k s)
unfolding M.block_list give ◌>>◌
inner_piece {e} {block} {types} bl {links} {code} around more head body inner lower shallow next filled kind fits none enter does' {i} {s} {v} {h} {t} {aims} closed n f k line enough later {turns0} {i0} {acts0} ready less l few serving all at goal =
    let program = e.program in
    let here = inner_around program more head.line in
    let c1 = inner_begun inner.words (suc e.level) in
    let c2 = entered_without_texts 1 head.line in
    let c3 = stmts_code (begin_environment head e) none_taken body in
    let c4 = inner_ended inner.words in
    let l2 = back_of c1 (c2 ++ (c3 ++ c4)) l in
    let l3 = back_of c2 (c3 ++ c4) l2 in
    let n1 = size_append c1 (c2 ++ (c3 ++ c4)) in
    let n2 = size_append c2 (c3 ++ c4) in
    let n3 = size_append c3 c4 in
    let i2 = i + size_of c1 in
    let i3 = i2 + size_of c2 in
    let i4 = i3 + size_of c3 in
    let place : i4 + size_of c4 ≡ i + size_of (c1 ++ (c2 ++ (c3 ++ c4))) = omega (arith, n1, n2, n3) in
    let s2 = entered_state head body s in
    let v2 = entered_services v inner.at head.line in
    let same = same_length s.activations v.activations serving.nested in
    let few' : nat_lt (length v.activations) most_activations ≡ true = ap (λ m. nat_lt m most_activations) same ∙ few in
    let long = entered_length s.activations (e.level ∷ bl.depths) all.entered in
    let newest = newest_is s.activations v.activations (length bl.depths) serving.nested long in
    let parent = newest_height s.activations in
    let some : 0 < head.level = omega (arith, next) in
    let outside : Outside head.level e.level block types = inr (next, λ j kind at. bl.lower j at) in
    let last : Option BasicValue → Meaning (Unit {0}) = λ u. give tt in
    let part = inner_part program more head body in
    let closed1 = before_closed k last closed in
    let closed2 = ending_closed newest_ended closed1 in
    subst (Comes code i f v aims) (sym (begin_meant program around more head body k s enter kind none few))
    (onward closed (inner_frame bl inner n i f shallow (omega (arith, later)) (front_of c1 (c2 ++ (c3 ++ c4)) l) at)
    (λ f1 at1.
    onward closed (inner_entered bl inner n i2 f1 head.line fits serving.waiting few' (front_of c2 (c3 ++ c4) l2) at1)
    (λ f2 at2.
    comes_on k (left false newest_ended (part k s2)) last
    (comes_ended newest_ended (part k s2)
    ((does' t).does closed2 head.line n f2 k (front_of c3 c4 l3)
    (record {
      world = serving.world;
      running = serving.running;
      line_is = refl;
      input = serving.input;
      allowed = serving.allowed;
      fits = serving.fits;
      nested = entered_nested head body s v.activations (entered_activation v inner.at) parent some (omega (arith, long)) (omega (arith, newest)) (omega (arith, newest, long)) (λ u. omega (arith, newest, long)) (record { kind = λ further. refl; units = tt }) serving.nested;
      waiting = refl;
      places = places_entered (length v.edits) (entered_activation v inner.at) v.activations refl serving.places;
    })
    (entered_all head body s (storage v) (entered_activation v inner.at) parent some (omega (arith, newest)) (omega (arith, newest, long)) (λ u. omega (arith, newest, long)) (record { kind = λ further. refl; units = tt }) refl outside serving.nested all)
    at2
    (λ s3 v3 line3 n3' h3 t3 f3 serving3 all3 stays3 at3.
    let o = left_all s3 (storage v3) serving3.nested outside (λ j kind at. bl.owners j at) all3 in
    let v4 = ended_services v3 o.newest o.rest in
    onward closed (inner_left bl inner n3' (inner.at + fixed_size (suc e.level) 0) i4 f3 o.newest o.rest o.are (back_of c3 c4 l3) at3)
    (λ f4 at4.
    record {
      to = λ early.
          subst (λ u. aims.done u f4 v4 tt (with_world s3.world (newest_ended s3))) (sym place)
          (goal (with_world s3.world (newest_ended s3)) v4 o.newest.line n3' h3 f4
          (record {
            world = serving3.world;
            running = serving3.running;
            line_is = refl;
            input = serving3.input ∙ sym (ended_input s3);
            allowed = serving3.allowed;
            fits = serving3.fits;
            nested = o.nested;
            waiting = serving3.waiting;
            places = places_left v3.edits o.newest o.rest (subst (PlacesHeld (length v3.edits)) o.are serving3.places);
          })
          o.all
          (λ b. record { pc = (at4 b).pc ∙ ap (address b) place; holds = (at4 b).holds }));
    }))
    (record {
      enough = omega (arith, enough);
      later = omega (arith, later);
      jumps = λ label among once. let no : false ≡ true = among in absurd (cc no);
      outs = (λ label among once. own_outlet bl inner head.number head.level next filled t ready label among once (omega (arith, less)), outer_outlets bl inner t head.number head.level next links k acts0 v.world.acts aims.jumped less bl.outer bl.enclosing ready.outs);
      homes = (λ deep owned once. own_home bl inner head.number head.level next filled t (ready.own deep owned once), outer_homes bl inner t head.number head.level next links k aims.returned bl.outer bl.enclosing ready.homes);
      own = λ deep owned once. let no : owner_level e.owner ≡ head.level = ap owner_level owned in absurd (omega (arith, no, lower, next));
      returns = λ number owned once.
          let o = ready.returns number owned once in
          record {
            at = o.at;
            place = o.place;
            near = o.near;
            later = o.later;
            leaves = λ s' v' f' a world running allowed fits' alone at'. o.leaves (with_world s'.world (newest_ended s')) v' f' a world running allowed fits' alone at';
          };
    }))))))

-- where too many blocks are entered the run ends
pub limited_piece : {e : Environment} {block : Names} {types : Types} (bl : Block e block types) {links : Links} {code : List Instr} (head : Y.BlockHead) (rest : Code) (inner : Inner bl) → e.level < 100 → head.line < 2 ^ 31 → {X : Type 0} {i : ℕ} {s : State} {v : Services} {h t : ℕ → ℕ} {aims : Aims X} (closed : Closed code aims) (n : Values) (f : Family) (k line : ℕ) → 0 < i → Linked links code i (inner_begun inner.words (suc e.level) ++ (entered_without_texts 1 head.line ++ rest)) → nat_lt (length s.activations) most_activations ≡ false → Serving k s v line → ((b : Base) → At b i (Known (bl.ground n) v h t nothing b) (f b)) → Comes code i f v aims (finish {R = X} (E.Limit L.Depth) k s)
limited_piece {e} bl {links} {code} head rest inner shallow fits {i = i} {s = s} {v = v} {h = h} {t = t} {aims = aims} closed n f k line later l many serving at =
    let c1 = inner_begun inner.words (suc e.level) in
    let c2 = entered_without_texts 1 head.line in
    let l2 = front_of c2 rest (back_of c1 (c2 ++ rest) l) in
    let inside = l2.inside in
    let m = number a2 head.line in
    let last = small a7 4 ∷ Plain I.Ecall ∷ [] in
    let size = size_append m last in
    let many' : nat_lt (length v.activations) most_activations ≡ false = ap (λ u. nat_lt u most_activations) (same_length s.activations v.activations serving.nested) ∙ many in
    onward closed (inner_frame bl inner n i f shallow later (front_of c1 (c2 ++ rest) l) at)
    (λ f1 at1.
    inner_limited bl inner n (i + size_of c1) f1 closed k head.line line fits (omega (arith, inside, size)) many' l2 serving at1)

own_begin_does : {e : Environment} {block : Names} {types : Types} (bl : Block e block types) (links : Links) (code : List Instr) (around : Around) (more : ℕ) (head : Y.BlockHead) (body : Y.Stmts) (inner : Inner bl) → owner_level e.owner ≤ e.level → e.level < 100 → (next : head.level ≡ suc e.level) (filled : IsFilled bl) → head.kind ≡ Y.BeginBlock → head.line < 2 ^ 31 → variables_of_block e.program head.number ≡ [] → Entering e.program around more → ((more' : ℕ) → more ≡ suc more' → suc (length bl.depths) < most_activations → (t0 : ℕ → ℕ) → Does (inner_block bl inner t0 head.number head.level next filled) links code (suc more') (stmts_code (begin_environment head e) none_taken body) (M.list (inner_around e.program more' head.line) body)) → Does bl links code around.turns (act_code head.line ++ inner_code e head inner.words body) (M.statement around (Y.Begin (Y.BlockOf head body)))
unfolding M.statement ◌>>◌
own_begin_does {e} {block} {types} bl links code around zero head body inner lower shallow next filled kind fits none entering does' =
    record {
      does = λ {i} {s} {v} {h} {t} {aims} closed old n f k l serving all at goal more'.
          let next' : Unit {0} → Meaning (Unit {0}) = λ u. begin_part around head body in
          comes_on k (act counted k s) next'
          (act_piece (before_closed k next' closed) f head.line old k fits (front_of (act_code head.line) (inner_code e head inner.words body) l) serving at
          (λ f1 serving1 at1.
          absurd (let e1 = more'.enough in let e2 = entering.turns in let e3 = serving1.allowed in omega (arith, e1, e2, e3))));
    }
own_begin_does {e} {block} {types} bl links code around (suc more) head body inner lower shallow next filled kind fits none entering does' =
    record {
      does = λ {i} {s} {v} {h} {t} {aims} closed old n f k l serving all at goal more'.
          let a = act_code head.line in
          let c = inner_code e head inner.words body in
          let size = size_append a c in
          let place : i + size_of a + size_of c ≡ i + size_of (a ++ c) = omega (arith, size) in
          let e1 = more'.enough in
          let e2 = entering.turns in
          let later = more'.later in
          let next' : Unit {0} → Meaning (Unit {0}) = λ u. begin_part around head body in
          comes_on k (act counted k s) next'
          (act_piece (before_closed k next' closed) f head.line old k fits (front_of a c l) serving at
          (λ f1 serving1 at1.
          let s1 = with_world (counted s.world) s in
          by_test (nat_lt (length s.activations) most_activations)
          (λ many.
          let last : Option BasicValue → Meaning (Unit {0}) = λ u. give tt in
          subst (Comes code (i + size_of a) f1 (acted head.line v) aims) (sym (begin_limited around e.program more head body k s1 entering.enter many))
          (comes_on k (finish {R = Option BasicValue} (E.Limit L.Depth) k s1) last
          (limited_piece bl head (stmts_code (begin_environment head e) none_taken body ++ inner_ended inner.words) inner shallow fits (before_closed k last closed) n f1 k head.line (omega (arith, later)) (back_of a c l) many serving1 at1)))
          (λ few.
          let deep : suc (length bl.depths) < most_activations = (let below = ltb-true (length s.activations) most_activations few in let long = entered_length s.activations (e.level ∷ bl.depths) all.entered in omega (arith, below, long)) in
          inner_piece bl around more head body inner lower shallow next filled kind fits none entering.enter (does' more refl deep) closed n f1 k head.line (omega (arith, e1, e2)) (omega (arith, later)) more' (omega arith) (back_of a c l) few serving1
          (counted_all (counted s.world) all)
          at1
          (λ s4 v4 line4 n4 h4 f4 serving4 all4 at4.
          subst (λ u. aims.done u f4 v4 tt s4) (sym place)
          (goal s4 v4 line4 n4 h4 t f4 serving4
          all4
          (record { registers = λ r below. absurd (let held = bl.held in omega (arith, held, below)); words = λ j below. refl })
          (λ b. record { pc = (at4 b).pc ∙ ap (address b) place; holds = (at4 b).holds }))))));
    }

pub begin_does : {e : Environment} {block : Names} {types : Types} (bl : Block e block types) (links : Links)
    (code : List Instr) (around : Around) (more : ℕ) (head : Y.BlockHead) (body : Y.Stmts) (inner : Inner bl)
    → owner_level e.owner ≤ e.level → inner.words ≡ max 0 (body_words body) → e.level < 100
    → (next : head.level ≡ suc e.level) (filled : IsFilled bl) → head.kind ≡ Y.BeginBlock → head.line < 2 ^ 31
    → variables_of_block e.program head.number ≡ [] → Entering e.program around more
    → ((more' : ℕ) → more ≡ suc more' → suc (length bl.depths) < most_activations → (t0 : ℕ → ℕ)
    → Does (inner_block bl inner t0 head.number head.level next filled) links code (suc more')
    (stmts_code (begin_environment head e) none_taken body) (M.list (inner_around e.program more' head.line) body))
    → Does bl links code around.turns (stmt_code e bl.taken (Y.Begin (Y.BlockOf head body)))
    (M.statement around (Y.Begin (Y.BlockOf head body)))
begin_does {e} bl links code around more head body inner lower same shallow next filled kind fits none entering does' =
    subst (λ c. Does bl links code around.turns (act_code head.line ++ c) (M.statement around (Y.Begin (Y.BlockOf head body)))) (ap (λ w. inner_code e head w body) same ∙ sym (inner_code_is e head body next none))
    (own_begin_does bl links code around more head body inner lower shallow next filled kind fits none entering does')

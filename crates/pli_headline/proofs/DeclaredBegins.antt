-- Begin blocks that declare variables: they are entered, their variables are made one behind the other, their statements run, and they are left.
use Rattle.std.proofs.Common.{◌≡◌, ℕ, zero, suc, ◌+◌, ◌*◌, ◌^◌, ◌<◌, ◌≤◌, inl, inr, List, [], ◌∷◌, ◌++◌, length}
use Rattle.std.proofs.Common.{Option, true, false, refl, sym, ap, ◌∙◌, subst, arith, None}
use Rattle.std.specs.Prelude.{max, min, nat_lt, slice_get, if◌then◌else◌}
use Rattle.std.proofs.lemmas.Bool.{ltb-true}
use Rattle.rv_meaning.specs.declared.instr.Instr.{Instr}
use Rattle.pli_typing.specs.TypedTree as Y
use Rattle.pli_meaning.specs.declared.outcome.End.TheVariants as E
use Rattle.pli_meaning.specs.declared.outcome.Limit.TheVariants as L
use Rattle.pli_meaning.specs.World.{counted}
use Rattle.pli_meaning.specs.BasicValues.{BasicValue}
use Rattle.pli_meaning.specs.StorageState.{State, with_world, newest_height, newest_ended, most_activations}
use Rattle.pli_meaning.specs.DeclaredShapes.{variables_of_block}
use Rattle.pli_meaning.specs.Control.{Meaning, act, flow_on, left, finish, give, ◌>>◌}
use Rattle.pli_meaning.specs.Raising.{Around}
use Rattle.pli_meaning.specs.Executing as M
use Rattle.pli_meaning.specs.Making as K
use Rattle.pli_serving.specs.ServiceState.{Services}
use Rattle.pli_coding.specs.Assembly.{Code, size_of}
use Rattle.pli_coding.specs.Instructions.{move}
use Rattle.pli_coding.specs.Registers.{frame_register, a0}
use Rattle.pli_coding.specs.Allocating.{act_code}
use Rattle.pli_coding.specs.Entries.{frame_begun, entered_without_texts, variables_made}
use Rattle.pli_coding.specs.Environments.{Environment, none_taken, most_taken, in_frame}
use Rattle.pli_coding.specs.Frames.{fixed_size, last_place, frame_bytes, variable_place, parameters_of_block}
use Rattle.pli_coding.specs.Linking.{Links}
use Rattle.pli_coding.specs.Statements.{begin_environment, begin_code, block_words, stmt_code, stmts_code}
use Rattle.pli_coding.specs.Entries.{variables_take}
use Rattle.pli_coding.specs.Extents.{extents_take}
use Rattle.pli_headline.specs.Headline.{parts}
use Rattle.pli_headline.specs.ProvedSoFar.{Names, Types, ArePlain, declared_kind, bytes_for, bytes_of, array_variable}
use Rattle.pli_headline.proofs.HeldPlaces.{places_entered, PlacesHeld, places_left}
use Rattle.run_steps.specs.Engine.{Base, address}
use Rattle.run_steps.proofs.Linking.{size_append}
use Rattle.run_steps.specs.Items.{Linked, At}
use Rattle.run_steps.proofs.Jumps.{front_of, back_of}
use Rattle.run_steps.specs.Bodies.{Known}
use Rattle.run_steps.specs.Temporaries.{nothing}
use Rattle.pli_headline.proofs.Scalars.{Values, by_plain}
use Rattle.pli_headline.proofs.Serving.{Serving}
use Rattle.pli_headline.proofs.Acts.{acted, act_piece}
use Rattle.pli_headline.proofs.Storages.{storage}
use Rattle.pli_headline.proofs.Activations.{same_length, newest_is, entered_length}
use Rattle.pli_headline.proofs.MainProcedure.{frame_plain}
use Rattle.pli_headline.proofs.StandingBytes.{ConstantsStand, constants_moved}
use Rattle.pli_headline.proofs.Statements.{owner_level, Block, IsFilled, IsKnown, AllHold, counted_all, Does, Enough}
use Rattle.pli_headline.proofs.Declares.{Makes, bytes_before, bytes_all, declared_bytes, made_block, first_more, next_makes, declares_from, code_joined}
use Rattle.pli_headline.proofs.OneMore.{more_block}
use Rattle.pli_headline.proofs.MoreServed.{place_for}
use Rattle.pli_headline.proofs.InnerFrames.{Inner, inner_block}
use Rattle.pli_headline.proofs.BeginFrames.{inner_begun, inner_frame}
use Rattle.pli_headline.proofs.BeginEntered.{entered_activation, entered_services, ended_services, inner_ended, inner_entered, inner_left}
use Rattle.pli_headline.proofs.BeginMeant.{Entering, inner_around, begin_part, inner_part, begin_declares, begin_limited, entered_state, entered_nested, entered_all, ended_input, left_all, Outside}
use Rattle.pli_headline.proofs.Begins.{by_test, ending_closed, comes_ended, own_outlet, outer_outlets, own_home, outer_homes, limited_piece}
use Rattle.run_steps.specs.Reach.{Family, Aims, Comes, Closed}
use Rattle.run_steps.proofs.Reach.{before_closed, comes_on, onward}
use Rattle.pli_headline.proofs.ArrayFrames.{held_constant}
use Rattle.pli_headline.specs.InnerWords.{body_words}

-- ---- what a block has once its variables are made

-- it is as it was, but for the end of its frame
pub record IsMade {e : Environment} {block block' : Names} {types types' : Types} (ib : Block e block types) (mb : Block e block' types') (bytes : ℕ) : Type 1 where
  pub words : mb.words ≡ ib.words
  pub taken : mb.taken ≡ ib.taken
  pub labels : mb.labels ≡ ib.labels
  pub outer : mb.outer ≡ ib.outer
  pub depths : mb.depths ≡ ib.depths
  pub base : mb.base ≡ ib.base
  pub frames : mb.frames ≡ ib.frames
  pub frame : mb.stack.frame ≡ ib.stack.frame
  pub free : mb.stack.free ≡ ib.stack.free + bytes

pub is_made : (ds : List Y.DeclaredVariable) {e : Environment} {block : Names} {types : Types} (ib : Block e block types) {index : ℕ} (m : Makes ib index ds) (serial : ℕ) → IsMade ib (made_block ib ds m serial) (bytes_of ds)
is_made [] ib m serial =
    record { words = refl; taken = refl; labels = refl; outer = refl; depths = refl; base = refl; frames = refl; frame = refl; free = omega arith }
is_made (d ∷ ds) ib m serial =
    let o = is_made ds (more_block ib (first_more ib d ds m) (serial + 1)) (next_makes ib d ds m (serial + 1)) (serial + 1) in
    let free = o.free in
    let size = declared_bytes d m.are.0 in
    record { words = o.words; taken = o.taken; labels = o.labels; outer = o.outer; depths = o.depths; base = o.base; frames = o.frames; frame = o.frame; free = omega (arith, free, size) }

-- constant bytes stand as before
pub made_constants : (ds : List Y.DeclaredVariable) {e : Environment} {block : Names} {types : Types} (ib : Block e block types) {index : ℕ} (m : Makes ib index ds) (serial : ℕ) {links : Links} {code : List Instr} → ((n : Values) → ConstantsStand links code (ib.ground n)) → (n : Values) → ConstantsStand links code ((made_block ib ds m serial).ground n)
made_constants [] ib m serial stand n = stand n
made_constants (d ∷ ds) ib m serial stand n =
    made_constants ds (more_block ib (first_more ib d ds m) (serial + 1)) (next_makes ib d ds m (serial + 1)) (serial + 1)
    (λ n'. constants_moved (λ t. t) (λ t b m' o. o.0) (stand n')) n

-- ---- places in the frame

places_of : (at : ℕ) (ds : List Y.DeclaredVariable) (i : ℕ) → ArePlain ds → i ≤ length ds → at + bytes_of ds ≤ last_place → variable_place parts at ds i ≡ at + bytes_before ds i
places_of at [] zero are h fits = omega arith
places_of at [] (suc i) are h fits = absurd (omega (arith, h))
places_of at (d ∷ ds) zero are h fits = omega arith
places_of at (d ∷ ds) (suc i) are h fits =
    let n = bytes_for (declared_kind d) in
    let bytes : frame_bytes parts d ≡ n = frame_plain d are.0 ∙ sym (declared_bytes d are.0) in
    let next' : min last_place (at + frame_bytes parts d) ≡ at + n = omega (arith, fits, bytes) in
    ap (λ p. variable_place parts p ds i) next' ∙ places_of (at + n) ds i are.1 (omega (arith, h)) (omega (arith, fits)) ∙ omega arith

-- from the fixed part of the frame on
pub declared_place : (e : Environment) (number level i : ℕ) → IsKnown e → ArePlain (variables_of_block e.program number) → i ≤ length (variables_of_block e.program number) → fixed_size level 0 + bytes_of (variables_of_block e.program number) ≤ last_place → place_for (in_frame number level e) i ≡ fixed_size level 0 + bytes_before (variables_of_block e.program number) i
declared_place e number level i known are h fits =
    let ds = variables_of_block e.program number in
    ap (λ p. variable_place p (fixed_size level (length (parameters_of_block e.program number))) ds i) known.parts_are
    ∙ ap (λ (ns : List ℕ). variable_place parts (fixed_size level (length ns)) ds i) (known.none number)
    ∙ places_of (fixed_size level 0) ds i are h fits

-- ---- the variables of a block inside another

abbrev pub vars_of : Environment → Y.BlockHead → List Y.DeclaredVariable
vars_of e head = variables_of_block e.program head.number

pub inner_makes : {e : Environment} {block : Names} {types : Types} (bl : Block e block types) (inner : Inner bl) (t0 : ℕ → ℕ) (head : Y.BlockHead) (next : head.level ≡ suc e.level) (filled : IsFilled bl) → IsKnown e → ArePlain (vars_of e head) → head.level ≤ 100 → inner.at + fixed_size (suc e.level) 0 + bytes_of (vars_of e head) + 4 ≤ 14 * 2 ^ 20 → bytes_of (vars_of e head) ≤ 2 ^ 20 → Makes (inner_block bl inner t0 head.number head.level next filled) 0 (vars_of e head)
inner_makes {e} bl inner t0 head next filled known are shallow room few =
    let ds = vars_of e head in
    let place : (i : ℕ) → i ≤ length ds → place_for (in_frame head.number head.level e) i ≡ fixed_size head.level 0 + bytes_before ds i = λ i h. declared_place e head.number head.level i known are h (omega (arith, few, shallow)) in
    let first = place 0 (omega arith) in
    record {
      are = are;
      stand = λ i below. let z : 0 + i ≡ i = omega arith in ap (λ n. slice_get ds n) z;
      deep = omega (arith, next);
      new = λ j kind at. inl (let low = bl.lower j at in omega (arith, low, next));
      fresh = tt;
      own = λ n t b m o. o.own;
      places = λ i h.
          let z : 0 + i ≡ i = omega arith in
          let p = place i h in
          let q : place_for (in_frame head.number head.level e) (0 + i) ≡ place_for (in_frame head.number head.level e) i = ap (place_for (in_frame head.number head.level e)) z in
          omega (arith, p, q, next);
      room = room;
      near = omega (arith, first, few, shallow);
    }

-- all of them stand in its frame
pub made_filled : {e : Environment} {block : Names} {types : Types} (bl : Block e block types) (inner : Inner bl) (t0 : ℕ → ℕ) (head : Y.BlockHead) (next : head.level ≡ suc e.level) (filled : IsFilled bl) → IsKnown e → (are : ArePlain (vars_of e head)) → head.level ≤ 100 → bytes_of (vars_of e head) ≤ 2 ^ 20 → (m : Makes (inner_block bl inner t0 head.number head.level next filled) 0 (vars_of e head)) (serial : ℕ) → IsFilled (made_block (inner_block bl inner t0 head.number head.level next filled) (vars_of e head) m serial)
made_filled {e} bl inner t0 head next filled known are shallow few m serial owned =
    let ds = vars_of e head in
    let o = is_made ds (inner_block bl inner t0 head.number head.level next filled) m serial in
    let frame = o.frame in
    let free = o.free in
    let p = declared_place e head.number head.level (length ds) known are (omega arith) (omega (arith, few, shallow)) in
    let all = bytes_all ds in
    omega (arith, frame, free, p, next, all)

-- ---- the code

abbrev pub declaring_code : Environment → Y.BlockHead → (words : ℕ) → Y.Stmts → Code
declaring_code e head words body =
    inner_begun words (suc e.level)
    ++ (entered_without_texts 1 head.line
    ++ ((variables_made (begin_environment head e) head.line 0 (vars_of e head) ++ stmts_code (begin_environment head e) none_taken body) ++ inner_ended words))

-- no temporaries are needed for them
pub none_taken_for : (ds : List Y.DeclaredVariable) → ArePlain ds → variables_take ds ≡ none_taken
none_taken_for [] are = refl
none_taken_for (d ∷ ds) are =
    by_plain (λ u. variables_take (u ∷ ds) ≡ most_taken none_taken (variables_take ds)) (λ p i. refl) (λ i. refl)
    (λ n i. refl) (λ n i. refl)
    (λ type b bs i held are'. ap (λ q. most_taken (if q then none_taken else extents_take none_taken
    (array_variable type (b ∷ bs) i)) (variables_take ds)) (held_constant type held (b ∷ bs) i)) d are.0
    ∙ ap (λ t. most_taken none_taken t) (none_taken_for ds are.1)

declaring_code_is : (e : Environment) (head : Y.BlockHead) (body : Y.Stmts) → head.level ≡ suc e.level
    → ArePlain (vars_of e head) → begin_code e head (block_words e head.number body)
    (stmts_code (begin_environment head e) none_taken body) ≡ declaring_code e head (max 0 (body_words body)) body
declaring_code_is e head body next are =
    let e' = begin_environment head e in
    let code = stmts_code e' none_taken body in
    let made = variables_made e' head.line 0 (vars_of e head) in
    let enter = entered_without_texts 1 head.line in
    let words = max 0 (body_words body) in
    ap (λ t. inner_begun_at head.level (max t.words (body_words body))
    (enter ++ (made ++ (code ++ inner_ended (max t.words (body_words body)))))) (none_taken_for (vars_of e head) are)
    ∙ ap (λ level. inner_begun_at level words (enter ++ (made ++ (code ++ inner_ended words)))) next
    ∙ ap (λ c. inner_begun_at (suc e.level) words (enter ++ c)) (sym (code_joined made code (inner_ended words)))
  where
    inner_begun_at : (level words : ℕ) → Code → Code
    inner_begun_at level words behind = (move a0 frame_register ∷ frame_begun words level 0 None) ++ behind

-- ---- what it does

-- its list is no function's
pub ended_does : {e : Environment} {block : Names} {types : Types} (bl : Block e block types) {links : Links} {code : List Instr} {turns : ℕ} {c : Code} (around : Around) (body : Y.Stmts) → Does bl links code turns c (M.list around body) → Does bl links code turns c (M.block_list around body false)
unfolding M.block_list
ended_does bl around body d = d

-- the block, with its variables made, where service 7 gives them serial numbers from one on
abbrev pub MadeDoes : {e : Environment} {block : Names} {types : Types} (bl : Block e block types) (inner : Inner bl) (head : Y.BlockHead) (next : head.level ≡ suc e.level) (filled : IsFilled bl) → ((t0 : ℕ → ℕ) → Makes (inner_block bl inner t0 head.number head.level next filled) 0 (vars_of e head)) → Links → List Instr → (more : ℕ) → Y.Stmts → Type 1
MadeDoes {e} bl inner head next filled makes links code more body =
    (t0 : ℕ → ℕ) (serial : ℕ) → Does (made_block (inner_block bl inner t0 head.number head.level next filled) (vars_of e head) (makes t0) serial) links code (suc more) (stmts_code (begin_environment head e) none_taken body) (M.list (inner_around e.program more head.line) body)

-- constant bytes stand in the block
abbrev pub InnerStand : {e : Environment} {block : Names} {types : Types} (bl : Block e block types) (inner : Inner bl) (head : Y.BlockHead) (next : head.level ≡ suc e.level) (filled : IsFilled bl) → Links → List Instr → Type 0
InnerStand bl inner head next filled links code =
    (t0 : ℕ → ℕ) (n : Values) → ConstantsStand links code ((inner_block bl inner t0 head.number head.level next filled).ground n)

declaring_piece : {e : Environment} {block : Names} {types : Types} (bl : Block e block types) {links : Links} {code : List Instr} (around : Around) (more : ℕ) (head : Y.BlockHead) (body : Y.Stmts) (inner : Inner bl) → owner_level e.owner ≤ e.level → e.level < 100 → (next : head.level ≡ suc e.level) (filled : IsFilled bl) → IsKnown (begin_environment head e) → (makes : (t0 : ℕ → ℕ) → Makes (inner_block bl inner t0 head.number head.level next filled) 0 (vars_of e head)) → InnerStand bl inner head next filled links code → head.kind ≡ Y.BeginBlock → head.line < 2 ^ 31 → around.enter ≡ M.entered e.program (suc more) → MadeDoes bl inner head next filled makes links code more body → {i : ℕ} {s : State} {v : Services} {h t : ℕ → ℕ} {aims : Aims (Unit {0})} (closed : Closed code aims) (n : Values) (f : Family) (k line : ℕ) → k < suc more + v.world.acts → 10 ≤ i → {turns0 i0 acts0 : ℕ} → Enough bl links k turns0 i0 h t acts0 aims.jumped aims.returned → acts0 ≤ v.world.acts → Linked links code i (declaring_code e head inner.words body) → nat_lt (length s.activations) most_activations ≡ true → Serving k s v line → AllHold bl.frames bl.serials (storage v) (e.level ∷ bl.depths) s block types n → ((b : Base) → At b i (Known (bl.ground n) v h t nothing b) (f b)) → ((s' : State) (v' : Services) (line' : ℕ) (n' : Values) (h' : ℕ → ℕ) (f' : Family) → Serving k s' v' line' → AllHold bl.frames bl.serials (storage v') (e.level ∷ bl.depths) s' block types n' → ((b : Base) → At b (i + size_of (declaring_code e head inner.words body)) (Known (bl.ground n') v' h' t nothing b) (f' b)) → aims.done (i + size_of (declaring_code e head inner.words body)) f' v' tt s') → Comes code i f v aims (begin_part around head body k s)
unfolding give
declaring_piece {e} {block} {types} bl {links} {code} around more head body inner lower shallow next filled known makes stand kind fits enter does' {i} {s} {v} {h} {t} {aims} closed n f k line enough later {turns0} {i0} {acts0} ready less l few serving all at goal =
    let program = e.program in
    let here = inner_around program more head.line in
    let e' = begin_environment head e in
    let vars = vars_of e head in
    let stmts = stmts_code e' none_taken body in
    let c1 = inner_begun inner.words (suc e.level) in
    let c2 = entered_without_texts 1 head.line in
    let c3 = variables_made e' head.line 0 vars ++ stmts in
    let c4 = inner_ended inner.words in
    let l2 = back_of c1 (c2 ++ (c3 ++ c4)) l in
    let l3 = back_of c2 (c3 ++ c4) l2 in
    let n1 = size_append c1 (c2 ++ (c3 ++ c4)) in
    let n2 = size_append c2 (c3 ++ c4) in
    let n3 = size_append c3 c4 in
    let i2 = i + size_of c1 in
    let i3 = i2 + size_of c2 in
    let i4 = i3 + size_of c3 in
    let place : i4 + size_of c4 ≡ i + size_of (c1 ++ (c2 ++ (c3 ++ c4))) = omega (arith, n1, n2, n3) in
    let s2 = entered_state head body s in
    let v2 = entered_services v inner.at head.line in
    let same = same_length s.activations v.activations serving.nested in
    let few' : nat_lt (length v.activations) most_activations ≡ true = ap (λ m. nat_lt m most_activations) same ∙ few in
    let long = entered_length s.activations (e.level ∷ bl.depths) all.entered in
    let newest = newest_is s.activations v.activations (length bl.depths) serving.nested long in
    let parent = newest_height s.activations in
    let some : 0 < head.level = omega (arith, next) in
    let outside : Outside head.level e.level block types = inr (next, λ j kind' at'. bl.lower j at') in
    let last : Option BasicValue → Meaning (Unit {0}) = λ u. give tt in
    let part = inner_part program more head body in
    let closed1 = before_closed k last closed in
    let closed2 = ending_closed newest_ended closed1 in
    let ib = inner_block bl inner t head.number head.level next filled in
    subst (Comes code i f v aims) (sym (begin_declares program around more head body k s enter kind few))
    (onward closed (inner_frame bl inner n i f shallow (omega (arith, later)) (front_of c1 (c2 ++ (c3 ++ c4)) l) at)
    (λ f1 at1.
    onward closed (inner_entered bl inner n i2 f1 head.line fits serving.waiting few' (front_of c2 (c3 ++ c4) l2) at1)
    (λ f2 at2.
    comes_on k (left false newest_ended (flow_on k (K.variables_made here 0 vars k s2) (λ u. part))) last
    (comes_ended newest_ended (flow_on k (K.variables_made here 0 vars k s2) (λ u. part))
    (declares_from closed2 here head.line (suc more) k stmts part vars ib known (makes t) n f2 head.line (stand t) refl
    (λ label among once. own_outlet bl inner head.number head.level next filled t ready label among once (omega (arith, less)), outer_outlets bl inner t head.number head.level next links k acts0 v.world.acts aims.jumped less bl.outer bl.enclosing ready.outs)
    (λ deep owned once. own_home bl inner head.number head.level next filled t (ready.own deep owned once), outer_homes bl inner t head.number head.level next links k aims.returned bl.outer bl.enclosing ready.homes)
    (λ deep owned once. let no : owner_level e.owner ≡ head.level = ap owner_level owned in absurd (omega (arith, no, lower, next)))
    (omega (arith, enough)) (omega (arith, later))
    (λ number owned once.
    let o = ready.returns number owned once in
    record {
      at = o.at;
      place = o.place;
      near = o.near;
      later = o.later;
      leaves = λ s' v' f' a world running allowed fits' alone at'. o.leaves (with_world s'.world (newest_ended s')) v' f' a world running allowed fits' alone at';
    })
    (ended_does (made_block ib vars (makes t) s2.serials) here body (does' t s2.serials))
    (front_of c3 c4 l3)
    (record {
      world = serving.world;
      running = serving.running;
      line_is = refl;
      input = serving.input;
      allowed = serving.allowed;
      fits = serving.fits;
      nested = entered_nested head body s v.activations (entered_activation v inner.at) parent some (omega (arith, long)) (omega (arith, newest)) (omega (arith, newest, long)) (λ u. omega (arith, newest, long)) (record { kind = λ further. refl; units = tt }) serving.nested;
      waiting = refl;
      places = places_entered (length v.edits) (entered_activation v inner.at) v.activations refl serving.places;
    })
    (entered_all head body s (storage v) (entered_activation v inner.at) parent some (omega (arith, newest)) (omega (arith, newest, long)) (λ u. omega (arith, newest, long)) (record { kind = λ further. refl; units = tt }) refl outside serving.nested all)
    at2
    (λ s3 v3 line3 n3' h3 t3 f3 free serving3 all3 at3.
    let o = left_all s3 (storage v3) serving3.nested outside (λ j kind' at'. bl.owners j at') all3 in
    let v4 = ended_services v3 o.newest o.rest in
    onward closed (inner_left bl inner n3' free i4 f3 o.newest o.rest o.are (back_of c3 c4 l3) at3)
    (λ f4 at4.
    record {
      to = λ early.
          subst (λ u. aims.done u f4 v4 tt (with_world s3.world (newest_ended s3))) (sym place)
          (goal (with_world s3.world (newest_ended s3)) v4 o.newest.line n3' h3 f4
          (record {
            world = serving3.world;
            running = serving3.running;
            line_is = refl;
            input = serving3.input ∙ sym (ended_input s3);
            allowed = serving3.allowed;
            fits = serving3.fits;
            nested = o.nested;
            waiting = serving3.waiting;
            places = places_left v3.edits o.newest o.rest (subst (PlacesHeld (length v3.edits)) o.are serving3.places);
          })
          o.all
          (λ b. record { pc = (at4 b).pc ∙ ap (address b) place; holds = (at4 b).holds }));
    })))))))

own_declares_does : {e : Environment} {block : Names} {types : Types} (bl : Block e block types) (links : Links) (code : List Instr) (around : Around) (more : ℕ) (head : Y.BlockHead) (body : Y.Stmts) (inner : Inner bl) → owner_level e.owner ≤ e.level → e.level < 100 → (next : head.level ≡ suc e.level) (filled : IsFilled bl) → IsKnown (begin_environment head e) → (makes : (t0 : ℕ → ℕ) → Makes (inner_block bl inner t0 head.number head.level next filled) 0 (vars_of e head)) → InnerStand bl inner head next filled links code → head.kind ≡ Y.BeginBlock → head.line < 2 ^ 31 → Entering e.program around more → ((more' : ℕ) → more ≡ suc more' → suc (length bl.depths) < most_activations → MadeDoes bl inner head next filled makes links code more' body) → Does bl links code around.turns (act_code head.line ++ declaring_code e head inner.words body) (M.statement around (Y.Begin (Y.BlockOf head body)))
unfolding M.statement ◌>>◌
own_declares_does {e} bl links code around zero head body inner lower shallow next filled known makes stand kind fits entering does' =
    record {
      does = λ {i} {s} {v} {h} {t} {aims} closed old n f k l serving all at goal more'.
          let next' : Unit {0} → Meaning (Unit {0}) = λ u. begin_part around head body in
          comes_on k (act counted k s) next'
          (act_piece (before_closed k next' closed) f head.line old k fits (front_of (act_code head.line) (declaring_code e head inner.words body) l) serving at
          (λ f1 serving1 at1.
          absurd (let e1 = more'.enough in let e2 = entering.turns in let e3 = serving1.allowed in omega (arith, e1, e2, e3))));
    }
own_declares_does {e} bl links code around (suc more) head body inner lower shallow next filled known makes stand kind fits entering does' =
    record {
      does = λ {i} {s} {v} {h} {t} {aims} closed old n f k l serving all at goal more'.
          let a = act_code head.line in
          let c = declaring_code e head inner.words body in
          let size = size_append a c in
          let place : i + size_of a + size_of c ≡ i + size_of (a ++ c) = omega (arith, size) in
          let e1 = more'.enough in
          let e2 = entering.turns in
          let later = more'.later in
          let next' : Unit {0} → Meaning (Unit {0}) = λ u. begin_part around head body in
          comes_on k (act counted k s) next'
          (act_piece (before_closed k next' closed) f head.line old k fits (front_of a c l) serving at
          (λ f1 serving1 at1.
          let s1 = with_world (counted s.world) s in
          by_test (nat_lt (length s.activations) most_activations)
          (λ many.
          let last : Option BasicValue → Meaning (Unit {0}) = λ u. give tt in
          subst (Comes code (i + size_of a) f1 (acted head.line v) aims) (sym (begin_limited around e.program more head body k s1 entering.enter many))
          (comes_on k (finish {R = Option BasicValue} (E.Limit L.Depth) k s1) last
          (limited_piece bl head ((variables_made (begin_environment head e) head.line 0 (vars_of e head) ++ stmts_code (begin_environment head e) none_taken body) ++ inner_ended inner.words) inner shallow fits (before_closed k last closed) n f1 k head.line (omega (arith, later)) (back_of a c l) many serving1 at1)))
          (λ few.
          let deep : suc (length bl.depths) < most_activations = (let below = ltb-true (length s.activations) most_activations few in let long = entered_length s.activations (e.level ∷ bl.depths) all.entered in omega (arith, below, long)) in
          declaring_piece bl around more head body inner lower shallow next filled known makes stand kind fits entering.enter (does' more refl deep) closed n f1 k head.line (omega (arith, e1, e2)) (omega (arith, later)) more' (omega arith) (back_of a c l) few serving1
          (counted_all (counted s.world) all)
          at1
          (λ s4 v4 line4 n4 h4 f4 serving4 all4 at4.
          subst (λ u. aims.done u f4 v4 tt s4) (sym place)
          (goal s4 v4 line4 n4 h4 t f4 serving4
          all4
          (record { registers = λ r below. absurd (let held = bl.held in omega (arith, held, below)); words = λ j below. refl })
          (λ b. record { pc = (at4 b).pc ∙ ap (address b) place; holds = (at4 b).holds }))))));
    }

pub declares_does : {e : Environment} {block : Names} {types : Types} (bl : Block e block types) (links : Links)
    (code : List Instr) (around : Around) (more : ℕ) (head : Y.BlockHead) (body : Y.Stmts) (inner : Inner bl)
    → owner_level e.owner ≤ e.level → inner.words ≡ max 0 (body_words body) → e.level < 100
    → (next : head.level ≡ suc e.level) (filled : IsFilled bl) → IsKnown (begin_environment head e)
    → ArePlain (vars_of e head) → (makes : (t0 : ℕ → ℕ)
    → Makes (inner_block bl inner t0 head.number head.level next filled) 0 (vars_of e head))
    → InnerStand bl inner head next filled links code → head.kind ≡ Y.BeginBlock → head.line < 2 ^ 31
    → Entering e.program around more → ((more' : ℕ) → more ≡ suc more' → suc (length bl.depths) < most_activations
    → MadeDoes bl inner head next filled makes links code more' body)
    → Does bl links code around.turns (stmt_code e bl.taken (Y.Begin (Y.BlockOf head body)))
    (M.statement around (Y.Begin (Y.BlockOf head body)))
declares_does {e} bl links code around more head body inner lower same shallow next filled known are makes stand kind fits entering does' =
    subst (λ c. Does bl links code around.turns (act_code head.line ++ c) (M.statement around (Y.Begin (Y.BlockOf head body)))) (ap (λ w. declaring_code e head w body) same ∙ sym (declaring_code_is e head body next are))
    (own_declares_does bl links code around more head body inner lower shallow next filled known makes stand kind fits entering does')

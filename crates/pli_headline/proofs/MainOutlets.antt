-- GOTO out of a called procedure or an on-unit to a label of the main procedure's own list, which is carried out around all calls and
-- raises: how the blocks that call or raise come to it.
use Rattle.std.proofs.Common.{◌≡◌, ℕ, suc, ◌+◌, ◌*◌, ◌<◌, ◌≤◌, ◌⊎◌, inl, inr, List, [], ◌∷◌, ◌++◌, length, Option, Bool, true, false, refl, sym, ap, ◌∙◌, subst, arith}
use Rattle.std.specs.Prelude.{◌==◌, ◌||◌}
use Rattle.std.proofs.lemmas.Bool.Decides.{nat_tests}
use Rattle.std.proofs.lemmas.List.Folds.{list_any-append}
use Rattle.pli_language.specs.Keywords.{same_bytes}
use Rattle.rv_meaning.specs.declared.instr.Instr.{Instr}
use Rattle.pli_typing.specs.TypedTree as Y
use Rattle.pli_meaning.specs.BasicValues.{BasicValue}
use Rattle.pli_meaning.specs.StorageState.{State, with_world, newest_ended}
use Rattle.pli_meaning.specs.Control.{Label, is_among}
use Rattle.pli_serving.specs.ServiceState.{Services}
use Rattle.pli_coding.specs.Assembly.{LabelPlace}
use Rattle.pli_coding.specs.Frames.{frame_end}
use Rattle.pli_coding.specs.Environments.{Owner, BlockOwner, Environment, in_frame, owned_by}
use Rattle.pli_coding.specs.Linking.{Links, place_of}
use Rattle.pli_headline.specs.ProvedSoFar.{Types, OuterBlock, Names}
use Rattle.run_steps.specs.Engine.{Base}
use Rattle.run_steps.specs.Items.{At}
use Rattle.run_steps.specs.Bodies.{Ground, Known}
use Rattle.pli_headline.proofs.Scalars.{Values}
use Rattle.run_steps.specs.Temporaries.{nothing}
use Rattle.run_steps.specs.Owing.{owing}
use Rattle.run_steps.proofs.Owing.{jumped_owing}
use Rattle.pli_headline.proofs.Entered.{Frames, atop, frames_left, Way}
use Rattle.pli_headline.proofs.OuterBlocks.{Rises, risen_over}
use Rattle.pli_headline.proofs.Statements.{Restricts, restricts_self, AllSeen, Enclosing, Enclosures, Block, AllHold, listed_of, IsMarkedOnce, ended_times, OutletOf, Outlets, Enough}
use Rattle.pli_headline.proofs.InnerFrames.{level_first, inner_above}
use Rattle.pli_headline.proofs.CalledFrames.{Callee, called_ground}
use Rattle.pli_headline.proofs.Begins.{ended_jump}
use Rattle.run_steps.specs.Reach.{Family, Aims, Closed}
use Rattle.pli_headline.proofs.Storages.{storage}

-- ---- the way there

abbrev pub Covers : (mains labels : List Label) → Type 0
Covers mains labels = (label : Label) → is_among label mains ≡ true → is_among label labels ≡ true

-- the main procedure's block is one of these, which have these labels
abbrev pub MainAround : (block : ℕ) (mains : List Label) → List OuterBlock → Type 0
MainAround block mains [] = ⊥
MainAround block mains (o ∷ os) =
    ((o.level ≡ 0) × ((o.number ≡ block) × Covers mains o.labels)) ⊎ MainAround block mains os

-- it is the block itself, or around it
abbrev pub HasMain : (block : ℕ) (mains : List Label) (level number : ℕ) (labels : List Label) → List OuterBlock → Type 0
HasMain block mains level number labels outer =
    ((level ≡ 0) × ((number ≡ block) × Covers mains labels)) ⊎ MainAround block mains outer

or_second : (p q : Bool) → q ≡ true → (p || q) ≡ true
or_second true q h = refl
or_second false q h = h

-- with more labels
pub more_main : (block : ℕ) (mains : List Label) (level number : ℕ) (more labels : List Label) (outer : List OuterBlock) → HasMain block mains level number labels outer → HasMain block mains level number (more ++ labels) outer
more_main block mains level number more labels outer (inl h) =
    inl
    (h.0, (h.1.0, λ label among. list_any-append (same_bytes label) more labels ∙ or_second (is_among label more) (is_among label labels) (h.1.1 label among)))
more_main block mains level number more labels outer (inr h) = inr h

-- ---- the main procedure around a called one, or an on-unit

abbrev pub procedure_owner : Y.BlockHead → Owner
procedure_owner head = BlockOwner (record { number = head.number; level = head.level })

abbrev pub main_of : (block : ℕ) (mains : List Label) → OuterBlock
main_of block mains = record { level = 0; number = block; labels = mains }

pub level_later : (level outer : ℕ) → outer < level → (0 == level) ≡ false
level_later level outer below = grind (arith, nat_tests)

abbrev pub own_main : {e : Environment} {block : Names} {types : Types} (bl : Block e block types) (callee : Callee bl) (back : Base → ℕ) (h0 t0 : ℕ → ℕ) (owner : Owner) (head : Y.BlockHead) → head.level ≡ 1 → (place : ℕ) (mains : List Label) → (e.level ≡ 0) → (e.block ≡ place) → Enclosing (owned_by owner (in_frame head.number head.level e)) (main_of place mains) (called_ground bl callee back h0 t0) (λ j. bl.base) (callee.at ∷ bl.frames.list) (head.level ∷ e.level ∷ bl.depths)
own_main {e} {block} {types} bl callee back h0 t0 owner head next place mains lowest same =
    let above = inner_above callee.at bl.stack.free callee.words callee.place in
    let over = bl.stack.above in
    record {
      its = bl.ground;
      waits = t0;
      frame = bl.stack.frame;
      free = bl.stack.free;
      frame_is = bl.stack.frame_is;
      free_is = bl.stack.free_is;
      above = bl.stack.above;
      ends = bl.ends;
      sized = λ first. subst (λ n. bl.stack.frame + frame_end e.parts e.program place n ≡ bl.stack.free) lowest (subst (λ m. bl.stack.frame + frame_end e.parts e.program m e.level ≡ bl.stack.free) same (bl.sized lowest));
      kept = λ n t b m o. o.kept.0;
      own = bl.own;
      deeper = omega (arith, next);
      shown = sym (bl.alone (level_first e.level lowest));
      lowest = λ u. bl.shallow (level_first e.level lowest);
      count = 0;
      behind = bl.lead;
      depths = bl.depths;
      rises = ((omega (arith, above, over), inr (refl, bl.shallow (level_first e.level lowest))), (bl.leads, ap (λ l. l ∷ bl.depths) lowest));
      serials = bl.serials;
      names = block;
      types = types;
      beneath = λ j kind at. (let outer = callee.outer j kind at in omega (arith, outer), bl.owners j at);
    }

abbrev pub outer_main : {e : Environment} {block : Names} {types : Types} (bl : Block e block types) (callee : Callee bl) (back : Base → ℕ) (h0 t0 : ℕ → ℕ) (owner : Owner) (head : Y.BlockHead) → head.level ≡ 1 → (place : ℕ) (mains : List Label) (o : OuterBlock) (c : Enclosing e o bl.ground bl.levels bl.frames.list (e.level ∷ bl.depths)) → o.level ≡ 0 → o.number ≡ place → Enclosing (owned_by owner (in_frame head.number head.level e)) (main_of place mains) (called_ground bl callee back h0 t0) (λ j. bl.base) (callee.at ∷ bl.frames.list) (head.level ∷ e.level ∷ bl.depths)
outer_main {e} bl callee back h0 t0 owner head next place mains o c lowest same =
    let above = inner_above callee.at bl.stack.free callee.words callee.place in
    let over = bl.stack.above in
    let high = risen_over c.count c.frame o.level bl.frames.list (e.level ∷ bl.depths) c.behind c.depths bl.stack.frame bl.lead bl.leads c.rises in
    record {
      its = c.its;
      waits = c.waits;
      frame = c.frame;
      free = c.free;
      frame_is = c.frame_is;
      free_is = c.free_is;
      above = c.above;
      ends = c.ends;
      sized = λ first. subst (λ n. c.frame + frame_end e.parts e.program place n ≡ c.free) lowest (subst (λ m. c.frame + frame_end e.parts e.program m o.level ≡ c.free) same (c.sized (inl lowest)));
      kept = λ n t b m x. c.kept n t0 b m x.kept.0;
      own = c.own;
      deeper = omega (arith, next);
      shown = sym (bl.outermost_level (level_later e.level o.level c.deeper)) ∙ ap bl.levels (sym lowest) ∙ c.shown;
      lowest = λ u. c.lowest lowest;
      count = suc c.count;
      behind = c.behind;
      depths = c.depths;
      rises = ((omega (arith, above, over, high), inr (refl, c.lowest lowest)), subst (λ n. Rises (suc c.count) c.frame n bl.frames.list (e.level ∷ bl.depths) c.behind c.depths) lowest c.rises);
      serials = c.serials;
      names = c.names;
      types = c.types;
      beneath = λ j kind at. (let low = (c.beneath j kind at).0 in omega (arith, low, lowest), (c.beneath j kind at).1);
    }

abbrev pub main_among : {e : Environment} {block : Names} {types : Types} (bl : Block e block types) (callee : Callee bl) (back : Base → ℕ) (h0 t0 : ℕ → ℕ) (owner : Owner) (head : Y.BlockHead) → head.level ≡ 1 → (place : ℕ) (mains : List Label) (os : List OuterBlock) → Enclosures e bl.ground bl.levels bl.frames.list (e.level ∷ bl.depths) os → MainAround place mains os → Enclosing (owned_by owner (in_frame head.number head.level e)) (main_of place mains) (called_ground bl callee back h0 t0) (λ j. bl.base) (callee.at ∷ bl.frames.list) (head.level ∷ e.level ∷ bl.depths)
main_among bl callee back h0 t0 owner head next place mains [] cs has = absurd has
main_among bl callee back h0 t0 owner head next place mains (o ∷ os) cs (inl h) =
    outer_main bl callee back h0 t0 owner head next place mains o cs.0 h.0 h.1.0
main_among bl callee back h0 t0 owner head next place mains (o ∷ os) cs (inr h) =
    main_among bl callee back h0 t0 owner head next place mains os cs.1 h

abbrev pub main_enclosing : {e : Environment} {block : Names} {types : Types} (bl : Block e block types) (callee : Callee bl) (back : Base → ℕ) (h0 t0 : ℕ → ℕ) (owner : Owner) (head : Y.BlockHead) → head.level ≡ 1 → (place : ℕ) (mains : List Label) → HasMain place mains e.level e.block bl.labels bl.outer → Enclosing (owned_by owner (in_frame head.number head.level e)) (main_of place mains) (called_ground bl callee back h0 t0) (λ j. bl.base) (callee.at ∷ bl.frames.list) (head.level ∷ e.level ∷ bl.depths)
main_enclosing bl callee back h0 t0 owner head next place mains (inl h) =
    own_main bl callee back h0 t0 owner head next place mains h.0 h.1.0
main_enclosing bl callee back h0 t0 owner head next place mains (inr h) =
    main_among bl callee back h0 t0 owner head next place mains bl.outer bl.enclosing h

-- the main procedure's variables are the first of a block's
abbrev pub among_seen : {e : Environment} {block : Names} {types : Types} (bl : Block e block types) (callee : Callee bl) (back : Base → ℕ) (h0 t0 : ℕ → ℕ) (owner : Owner) (head : Y.BlockHead) (next : head.level ≡ 1) (place : ℕ) (mains : List Label) (os : List OuterBlock) (cs : Enclosures e bl.ground bl.levels bl.frames.list (e.level ∷ bl.depths) os) (has : MainAround place mains os) → AllSeen e bl.ground bl.levels bl.frames.list (e.level ∷ bl.depths) os cs bl.serials block types → Restricts bl.serials block types (main_among bl callee back h0 t0 owner head next place mains os cs has).serials (main_among bl callee back h0 t0 owner head next place mains os cs has).names (main_among bl callee back h0 t0 owner head next place mains os cs has).types
among_seen bl callee back h0 t0 owner head next place mains [] cs has seen = absurd has
among_seen bl callee back h0 t0 owner head next place mains (o ∷ os) cs (inl h) seen = seen.0
among_seen bl callee back h0 t0 owner head next place mains (o ∷ os) cs (inr h) seen =
    among_seen bl callee back h0 t0 owner head next place mains os cs.1 h seen.1

abbrev pub main_seen : {e : Environment} {block : Names} {types : Types} (bl : Block e block types) (callee : Callee bl) (back : Base → ℕ) (h0 t0 : ℕ → ℕ) (owner : Owner) (head : Y.BlockHead) (next : head.level ≡ 1) (place : ℕ) (mains : List Label) (has : HasMain place mains e.level e.block bl.labels bl.outer) → Restricts bl.serials block types (main_enclosing bl callee back h0 t0 owner head next place mains has).serials (main_enclosing bl callee back h0 t0 owner head next place mains has).names (main_enclosing bl callee back h0 t0 owner head next place mains has).types
main_seen {block = block} {types = types} bl callee back h0 t0 owner head next place mains (inl h) = restricts_self bl.serials block types
main_seen bl callee back h0 t0 owner head next place mains (inr h) =
    among_seen bl callee back h0 t0 owner head next place mains bl.outer bl.enclosing h bl.seen

-- ---- its labels

own_main_outlet : {e : Environment} {block : Names} {types : Types} (bl : Block e block types) (callee : Callee bl) (back : Base → ℕ) (h0 : ℕ → ℕ) (owner : Owner) (kind : Way) (head : Y.BlockHead) (next : head.level ≡ 1) (place : ℕ) (mains : List Label) (lowest : e.level ≡ 0) (same : e.block ≡ place) {links : Links} {k turns i : ℕ} {h : ℕ → ℕ} (t : ℕ → ℕ) {acts acts' : ℕ} {jumped : ℕ → Family → Services → ℕ → Label → State → Type 0} {returned : ℕ → Family → Services → Option BasicValue → State → Type 0} → Enough bl links k turns i h t acts jumped returned → (label : Label) → is_among label bl.labels ≡ true → IsMarkedOnce links place label → acts ≤ acts' → OutletOf (atop callee.at kind bl.frames) (own_main bl callee back h0 t owner head next place mains lowest same) links k acts' (ended_jump jumped) label
own_main_outlet {e} {block} {types} bl callee back h0 owner kind head next place mains lowest same {links = links} {k = k} {h = h} t ready label among once less =
    let o = ready.jumps label among (subst (λ u. IsMarkedOnce links u label) (sym same) once) in
    record {
      at = o.at;
      place = subst (λ u. place_of links (LabelPlace u label) ≡ 4 * o.at) same o.place;
      near = o.near;
      later = o.later;
      lands = λ s v line n h' f serving all acted' at'.
          let s1 = with_world s.world (newest_ended s) in
          o.lands s1 v line n h' t f serving
          (listed_of bl.frames (bl.stack.frame ∷ bl.lead) bl.leads
          (subst (λ l. AllHold (frames_left 1 bl.stack.frame bl.lead (atop callee.at kind bl.frames)) bl.serials (storage v) (l ∷ bl.depths) s1 block types n) (sym lowest) all))
          (record { registers = λ r below. absurd (let held = bl.held in omega (arith, held, below)); words = λ j below. refl })
          (omega (arith, less, acted')) at';
    }

outer_main_outlet : {e : Environment} {block : Names} {types : Types} (bl : Block e block types) (callee : Callee bl) (back : Base → ℕ) (h0 t : ℕ → ℕ) (owner : Owner) (kind : Way) (head : Y.BlockHead) (next : head.level ≡ 1) (place : ℕ) (mains : List Label) (links : Links) (k acts acts' : ℕ) (jumped : ℕ → Family → Services → ℕ → Label → State → Type 0) (label : Label) → acts ≤ acts' → IsMarkedOnce links place label → is_among label mains ≡ true → (os : List OuterBlock) (cs : Enclosures e bl.ground bl.levels bl.frames.list (e.level ∷ bl.depths) os) (has : MainAround place mains os) → Outlets e bl.ground bl.levels bl.frames (e.level ∷ bl.depths) os cs links k acts jumped → OutletOf (atop callee.at kind bl.frames) (main_among bl callee back h0 t owner head next place mains os cs has) links k acts' (ended_jump jumped) label
outer_main_outlet bl callee back h0 t owner kind head next place mains links k acts acts' jumped label less once among [] cs has outs = absurd has
outer_main_outlet {e} {block} {types} bl callee back h0 t owner kind head next place mains links k acts acts' jumped label less once among (o ∷ os) cs (inl h) outs =
    let c = cs.0 in
    let p = outs.0 label (h.1.1 label among) (subst (λ u. IsMarkedOnce links u label) (sym h.1.0) once) in
    record {
      at = p.at;
      place = subst (λ u. place_of links (LabelPlace u label) ≡ 4 * p.at) h.1.0 p.place;
      near = p.near;
      later = p.later;
      lands = λ s v line n h' f serving all acted' at'.
          p.lands (with_world s.world (newest_ended s)) v line n h' f serving
          (subst (λ l. AllHold (frames_left (suc c.count) c.frame c.behind bl.frames) c.serials (storage v) (l ∷ c.depths) (ended_times (suc c.count) (with_world s.world (newest_ended s))) c.names c.types n) (sym h.0) all)
          (omega (arith, less, acted')) at';
    }
outer_main_outlet bl callee back h0 t owner kind head next place mains links k acts acts' jumped label less once among (o ∷ os) cs (inr h) outs =
    outer_main_outlet bl callee back h0 t owner kind head next place mains links k acts acts' jumped label less once among os cs.1 h outs.1

pub main_outlet : {e : Environment} {block : Names} {types : Types} (bl : Block e block types) (callee : Callee bl) (back : Base → ℕ) (h0 : ℕ → ℕ) (owner : Owner) (kind : Way) (head : Y.BlockHead) (next : head.level ≡ 1) (place : ℕ) (mains : List Label) (has : HasMain place mains e.level e.block bl.labels bl.outer) (links : Links) (k turns i : ℕ) (h t : ℕ → ℕ) (acts acts' : ℕ) (jumped : ℕ → Family → Services → ℕ → Label → State → Type 0) (returned : ℕ → Family → Services → Option BasicValue → State → Type 0) → Enough bl links k turns i h t acts jumped returned → (label : Label) → is_among label mains ≡ true → IsMarkedOnce links place label → acts ≤ acts' → OutletOf (atop callee.at kind bl.frames) (main_enclosing bl callee back h0 t owner head next place mains has) links k acts' (ended_jump jumped) label
main_outlet bl callee back h0 owner kind head next place mains (inl m) links k turns i h t acts acts' jumped returned ready label among once less =
    own_main_outlet bl callee back h0 owner kind head next place mains m.0 m.1.0 t ready label (m.1.1 label among) once less
main_outlet bl callee back h0 owner kind head next place mains (inr m) links k turns i h t acts acts' jumped returned ready label among once less =
    outer_main_outlet bl callee back h0 t owner kind head next place mains links k acts acts' jumped label less once among bl.outer bl.enclosing m ready.outs

-- where it comes to pays back what the call or the raise owes
pub owed_outlet : {code : List Instr} {aims : Aims (Unit {0})} (closed : Closed code aims) {e : Environment} {o : OuterBlock} {ground : Values → Ground} {shows : ℕ → ℕ} (frames : Frames) {levels : List ℕ} (c : Enclosing e o ground shows frames.list levels) {links : Links} {k acts : ℕ} (label : Label) → OutletOf frames c links k acts (ended_jump aims.jumped) label → OutletOf frames c links k acts (ended_jump (owing code (length code) aims).jumped) label
owed_outlet {code} {aims} closed frames c label p =
    record {
      at = p.at;
      place = p.place;
      near = p.near;
      later = p.later;
      lands = λ s v line n h f serving all acted at. jumped_owing (λ b w. At b p.at (Known (c.its n) v h c.waits nothing b) w) closed (length code) at (suc (length c.depths)) label (with_world s.world (newest_ended s)) (λ f' at'. p.lands s v line n h f' serving all acted at');
    }

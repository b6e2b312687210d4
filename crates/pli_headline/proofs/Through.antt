-- What runs where the variables of the main procedure alone can be named leaves those of the blocks in it as they were: so a part that
-- does what it means in the narrowed block does so in the block itself.
use Rattle.std.proofs.Common.{◌≡◌, ℕ, suc, ◌*◌, ◌<◌, ◌≤◌, ◌⊎◌, inl, inr, List, [], ◌∷◌, length, Option, Some, true, false, refl, sym, ap, ◌∙◌, subst, arith}
use Rattle.std.specs.Prelude.{map, slice_get, ◌==◌}
use Rattle.std.proofs.lemmas.Bool.Decides.{nat_tests}
use Rattle.rv_meaning.specs.declared.instr.Instr.{Instr}
use Rattle.pli_meaning.specs.BasicValues.{BasicValue}
use Rattle.pli_meaning.specs.StorageState.{State, newest_height, ancestor, binding_in, standing_for, generation_of, living_of}
use Rattle.pli_language.specs.declared.condition.Condition.{Condition}
use Rattle.pli_meaning.specs.Raising.{Around}
use Rattle.pli_meaning.specs.Control.{Label, Meaning, is_among}
use Rattle.pli_serving.specs.ServiceState.{Services}
use Rattle.pli_serving.specs.Templates.{template_of}
use Rattle.pli_coding.specs.Assembly.{Code, LabelPlace}
use Rattle.pli_coding.specs.Environments.{Environment}
use Rattle.pli_coding.specs.Linking.{Links, place_of}
use Rattle.pli_coding.specs.SignatureTable.{table_of}
use Rattle.pli_headline.specs.ProvedSoFar.{Names, Kind, Types, OuterBlock}
use Rattle.pli_headline.proofs.StandingBytes.{constants_moved}
use Rattle.pli_headline.proofs.Scalars.{Values, place_below}
use Rattle.pli_headline.proofs.Variables.{level_of, own}
use Rattle.pli_headline.proofs.Storages.{Storage, storage, Serials, Stored}
use Rattle.pli_headline.proofs.Activations.{entered_length}
use Rattle.pli_headline.proofs.Asides.{Aside, IsAside, asides_more, asides_back, asides_again}
use Rattle.pli_headline.proofs.Entered.{Frames, put_aside, frames_left}
use Rattle.pli_headline.proofs.States.{Holds}
use Rattle.pli_headline.proofs.TextStates.{KeepsText}
use Rattle.pli_headline.proofs.ArrayMeant.{HoldsArray}
use Rattle.pli_headline.proofs.TextArrayMeant.{HoldsTexts}
use Rattle.pli_headline.proofs.DeclaredNames.{chosen_before}
use Rattle.run_steps.specs.Reach.{Family}
use Rattle.pli_headline.proofs.MoreStates.{holds_moved, keeps_moved, array_moved, texts_moved, restricts_all, all_same}
use Rattle.pli_headline.proofs.Statements.{Block, Standing, AllHold, Restricts, Enclosures, Outlets, OutletOf, Homes, Enough, Does, IsMarkedOnce, ended_times}
use Rattle.pli_headline.proofs.MainOutlets.{MainAround, HasMain}
use Rattle.pli_headline.proofs.UnitRuns.{Raises}
use Rattle.run_steps.specs.Engine.{Base}
use Rattle.run_steps.specs.Items.{At}
use Rattle.run_steps.specs.Bodies.{Known}
use Rattle.run_steps.specs.Temporaries.{nothing}
use Rattle.pli_headline.proofs.Narrowing.{Narrows, beside, beside_self, chosen_behind, narrowed_main, narrowed}

-- ---- what is put aside

-- a variable of a block in the main procedure
pub record IsInside (outers types : Types) (j : ℕ) : Type 0 where
  pub kind : Kind
  pub at : slice_get types j ≡ Some kind
  pub behind : length outers ≤ j

abbrev pub aside_of : (outers : Types) (block : Names) (types : Types) (serials : Serials) (s : State) → Aside
aside_of outers block types serials s =
    record {
      among = IsInside outers types;
      spot = block.at;
      serials = serials;
      binding = λ j. standing_for s (own block j);
      generation = λ j. generation_of (living_of s.living (serials.of j));
    }

later_other : (count i j : ℕ) → count ≤ i → j < count → (i == j) ≡ false
later_other count i j high low = grind (arith, nat_tests)

-- where it is put aside
begins_aside : {frames : Frames} {serials : Serials} {xs : Storage} {level : ℕ} {depths : List ℕ} {s : State} {outer : Names} {outers : Types} {block : Names} {types : Types} {n : Values} → Narrows outer outers block types → ((j : ℕ) (kind : Kind) → slice_get types j ≡ Some kind → serials.owner j ≤ suc (length depths)) → AllHold frames serials xs (level ∷ depths) s block types n → IsAside (aside_of outers block types serials s) serials outers s.activations s.living s.serials
begins_aside {level = level} {depths} {s} {outers = outers} b owners all =
    let long = entered_length s.activations (level ∷ depths) all.entered in
    record {
      stands = λ j among. refl;
      lives = λ j among. refl;
      owned = λ j among. all.stored.owned j among.at;
      low = λ j among. let o = owners j among.kind among.at in omega (arith, o, long);
      older = λ j among. all.stored.older j among.at;
      apart = λ i j among at. all.stored.apart i j among.at (b.among j at) (later_other (length outers) i j among.behind (place_below outers j _ at));
    }

-- the first are those of the main procedure
narrows_restricts : {outer : Names} {outers : Types} {block : Names} {types : Types} (serials : Serials) → Narrows outer outers block types → Restricts serials block types serials outer outers
narrows_restricts serials b =
    record { program = b.program; among = λ j at. b.among j at; spots = λ j at. b.spots j at; of = λ j at. refl; owner = λ j at. refl; first = refl }

aside_all : {frames : Frames} {serials : Serials} {xs : Storage} {level : ℕ} {depths : List ℕ} {s : State} {outer : Names} {outers : Types} {block : Names} {types : Types} {n : Values} → Narrows outer outers block types → ((j : ℕ) (kind : Kind) → slice_get types j ≡ Some kind → serials.owner j ≤ suc (length depths)) → AllHold frames serials xs (level ∷ depths) s block types n → AllHold (put_aside (aside_of outers block types serials s) frames) serials xs (level ∷ depths) s outer outers n
aside_all {frames = frames} {serials} {level = level} {depths} {s} {outers = outers} {block} {types} b owners all =
    let r = restricts_all (narrows_restricts serials b) all in
    let long = entered_length s.activations (level ∷ depths) all.entered in
    record {
      numbers = r.numbers;
      texts = r.texts;
      arrays = r.arrays;
      text_arrays = r.text_arrays;
      entered = r.entered;
      framed = r.framed;
      kinds = r.kinds;
      units = r.units;
      aside = asides_more (aside_of outers block types serials s) (omega (arith, long)) (begins_aside b owners all) r.aside;
      stored = r.stored;
    }

-- ---- and back

-- a variable of the main procedure, or one that was put aside
by_narrowed : {A : Type 0} {outer : Names} {outers : Types} {block : Names} {types : Types} → Narrows outer outers block types → (j : ℕ) (kind : Kind) → slice_get types j ≡ Some kind → (slice_get outers j ≡ Some kind → A) → (IsInside outers types j → A) → A
by_narrowed {A} {outers = outers} {block} {types} b j kind at first other = by_place (b.others j at)
  where
    by_place : (slice_get outers j ≡ Some kind) ⊎ ((length outers ≤ j) × (0 < level_of block j)) → A
    by_place (inl h) = first h
    by_place (inr h) = other (record { kind = kind; at = at; behind = h.0 })

back_stored : {serials : Serials} {outer : Names} {outers : Types} {block : Names} {types : Types} {most : ℕ} (s s' : State) (xs xs' : Storage) → Narrows outer outers block types → Stored serials xs.signatures xs.living xs.serials most s.living s.serials block types → Stored serials xs'.signatures xs'.living xs'.serials most s'.living s'.serials outer outers → IsAside (aside_of outers block types serials s) serials outers s'.activations s'.living s'.serials → Stored serials xs'.signatures xs'.living xs'.serials most s'.living s'.serials block types
back_stored s s' xs xs' b before now x =
    record {
      owned = λ j at. by_narrowed b j _ at (λ at'. now.owned j at') (λ among. x.owned j among);
      apart = λ i j at at' other. before.apart i j at at' other;
      older = λ j at. by_narrowed b j _ at (λ at'. now.older j at') (λ among. x.older j among);
      alike = now.alike;
      counted = now.counted;
      first = now.first;
      table = now.table ∙ ap (λ p. map template_of (table_of p)) b.program;
    }

back_all : {frames : Frames} {serials : Serials} {xs xs' : Storage} {levels : List ℕ} {s s' : State} {outer : Names} {outers : Types} {block : Names} {types : Types} {n n' : Values} → Narrows outer outers block types → AllHold frames serials xs levels s block types n → AllHold (put_aside (aside_of outers block types serials s) frames) serials xs' levels s' outer outers n' → AllHold frames serials xs' levels s' block types (beside (length outers) n' n)
back_all {frames} {serials} {xs} {xs'} {levels} {s} {s'} {outer} {outers} {block} {types} {n} {n'} b before now =
    let count = length outers in
    let aside = asides_back (aside_of outers block types serials s) now.aside in
    let x = aside.0 in
    let spot : (j : ℕ) (kind : Kind) → slice_get outers j ≡ Some kind → block.at j ≡ outer.at j = λ j kind at. sym (b.spots j at) in
    let stands : (j : ℕ) (kind : Kind) → slice_get outers j ≡ Some kind → standing_for s' (own block j) ≡ standing_for s' (own outer j) = λ j kind at. standing_moved s' block outer j (spot j kind at) in
    record {
      numbers = λ j t numeric.
          by_narrowed b j _ t.1
          (λ at. subst (λ z. Holds s' block j (serials.of j) t.0 z) (sym (chosen_before count j (n'.numbers j) (n.numbers j) (place_below outers j _ at)))
          (holds_moved (spot j _ at) refl (stands j _ at) refl (now.numbers j (t.0, at) numeric)))
          (λ among. subst (λ z. Holds s' block j (serials.of j) t.0 z) (sym (chosen_behind count j (n'.numbers j) (n.numbers j) among.behind))
          (holds_moved refl refl (x.stands j among) (x.lives j among) (before.numbers j t numeric)));
      texts = λ j varying most at'.
          by_narrowed b j _ at'
          (λ at. subst (λ z. KeepsText s' block j (serials.of j) varying most z) (sym (chosen_before count j (n'.texts j) (n.texts j) (place_below outers j _ at)))
          (keeps_moved (spot j _ at) refl (stands j _ at) refl (now.texts j varying most at)))
          (λ among. subst (λ z. KeepsText s' block j (serials.of j) varying most z) (sym (chosen_behind count j (n'.texts j) (n.texts j) among.behind))
          (keeps_moved refl refl (x.stands j among) (x.lives j among) (before.texts j varying most at')));
      arrays = λ j type c cs at'.
          by_narrowed b j _ at'.0
          (λ at. subst (λ z. HoldsArray s' block j (serials.of j) type (c ∷ cs) z) (sym (chosen_before count j (n'.arrays j) (n.arrays j) (place_below outers j _ at)))
          (array_moved (spot j _ at) refl (stands j _ at) refl (now.arrays j type c cs (at, at'.1))))
          (λ among. subst (λ z. HoldsArray s' block j (serials.of j) type (c ∷ cs) z) (sym (chosen_behind count j (n'.arrays j) (n.arrays j) among.behind))
          (array_moved refl refl (x.stands j among) (x.lives j among) (before.arrays j type c cs at')));
      text_arrays = λ j varying most c cs at'.
          by_narrowed b j _ at'
          (λ at. subst (λ z. HoldsTexts s' block j (serials.of j) varying most (c ∷ cs) z) (sym (chosen_before count j (n'.text_arrays j) (n.text_arrays j) (place_below outers j _ at)))
          (texts_moved (spot j _ at) refl (stands j _ at) refl (now.text_arrays j varying most c cs at)))
          (λ among. subst (λ z. HoldsTexts s' block j (serials.of j) varying most (c ∷ cs) z) (sym (chosen_behind count j (n'.text_arrays j) (n.text_arrays j) among.behind))
          (texts_moved refl refl (x.stands j among) (x.lives j among) (before.text_arrays j varying most c cs at')));
      entered = now.entered;
      framed = now.framed;
      kinds = now.kinds;
      units = now.units;
      aside = asides_again before.aside aside.1;
      stored = back_stored s s' xs xs' b before.stored now.stored x;
    }
  where
    standing_moved : (s : State) (block outer : Names) (j : ℕ) → block.at j ≡ outer.at j → standing_for s (own block j) ≡ standing_for s (own outer j)
    standing_moved s block outer j e = ap (λ u. binding_in (ancestor s.activations (newest_height s.activations) u.level) u.index) e

-- ---- jumps out

-- an outlet to the main procedure's own labels, where the blocks around the narrowed one end too
main_outlets : {e : Environment} {block : Names} {types : Types} (bl : Block e block types) {outer : Names} {outers : Types} (b : Narrows outer outers block types) (n0 : Values) (x : Aside) (place : ℕ) (mains : List Label) (links : Links) (k acts : ℕ) (jumped : ℕ → Family → Services → ℕ → Label → State → Type 0) (label : Label) → is_among label mains ≡ true → IsMarkedOnce links place label → (os : List OuterBlock) (cs : Enclosures e bl.ground bl.levels bl.frames.list (e.level ∷ bl.depths) os) (has : MainAround place mains os) → ((j : ℕ) (kind : Kind) → slice_get (narrowed_main bl outers n0 place mains os cs has).types j ≡ Some kind → slice_get outers j ≡ Some kind) → Outlets e bl.ground bl.levels bl.frames (e.level ∷ bl.depths) os cs links k acts jumped → OutletOf (put_aside x bl.frames) (narrowed_main bl outers n0 place mains os cs has) links k acts jumped label
main_outlets bl b n0 x place mains links k acts jumped label among once [] cs has few outs = absurd has
main_outlets bl {outers = outers} b n0 x place mains links k acts jumped label among once (o ∷ os) cs (inl h) few outs =
    let c = cs.0 in
    let p = outs.0 label (h.1.1 label among) (subst (λ u. IsMarkedOnce links u label) (sym h.1.0) once) in
    record {
      at = p.at;
      place = subst (λ u. place_of links (LabelPlace u label) ≡ 4 * p.at) h.1.0 p.place;
      near = p.near;
      later = p.later;
      lands = λ s v line n h' f serving all acted at'.
          p.lands s v line (beside (length outers) n n0) h' f serving
          (all_same (beside (length outers) n n0) (λ j kind at. first_beside n j (place_below outers j _ (few j kind at)))
          (subst (λ l. AllHold (frames_left (suc c.count) c.frame c.behind bl.frames) c.serials (storage v) (l ∷ c.depths) (ended_times (suc c.count) s) c.names c.types n) (sym h.0) all))
          acted at';
    }
  where
    first_beside : (n : Values) (j : ℕ) → j < length outers → (n.numbers j ≡ (beside (length outers) n n0).numbers j) × ((n.texts j ≡ (beside (length outers) n n0).texts j) × ((n.arrays j ≡ (beside (length outers) n n0).arrays j) × (n.text_arrays j ≡ (beside (length outers) n n0).text_arrays j)))
    first_beside n j below = (
      sym (chosen_before (length outers) j (n.numbers j) (n0.numbers j) below),
      (
        sym (chosen_before (length outers) j (n.texts j) (n0.texts j) below),
        (sym (chosen_before (length outers) j (n.arrays j) (n0.arrays j) below), sym (chosen_before (length outers) j (n.text_arrays j) (n0.text_arrays j) below)),
      ),
    )
main_outlets bl b n0 x place mains links k acts jumped label among once (o ∷ os) cs (inr h) few outs =
    main_outlets bl b n0 x place mains links k acts jumped label among once os cs.1 h few outs.1

narrowed_outs : {e : Environment} {outer : Names} {outers : Types} {block : Names} {types : Types} (bl : Block e block types) (b : Narrows outer outers block types) (n0 : Values) (x : Aside) (place : ℕ) (mains : List Label) (has : HasMain place mains e.level e.block bl.labels bl.outer) (links : Links) (k acts : ℕ) (jumped : ℕ → Family → Services → ℕ → Label → State → Type 0) → Outlets e bl.ground bl.levels bl.frames (e.level ∷ bl.depths) bl.outer bl.enclosing links k acts jumped → (let nb = narrowed bl b n0 x place mains has in Outlets e nb.ground nb.levels nb.frames (e.level ∷ nb.depths) nb.outer nb.enclosing links k acts jumped)
narrowed_outs bl b n0 x place mains (inl h) links k acts jumped outs = tt
narrowed_outs bl b n0 x place mains (inr h) links k acts jumped outs =
    (λ label among once. main_outlets bl b n0 x place mains links k acts jumped label among once bl.outer bl.enclosing h (λ j kind at. (narrowed bl b n0 x place mains (inr h)).seen.0.among j at) outs, tt)

narrowed_homes : {e : Environment} {outer : Names} {outers : Types} {block : Names} {types : Types} (bl : Block e block types) (b : Narrows outer outers block types) (n0 : Values) (x : Aside) (place : ℕ) (mains : List Label) (has : HasMain place mains e.level e.block bl.labels bl.outer) (links : Links) (k : ℕ) (returned : ℕ → Family → Services → Option BasicValue → State → Type 0) → (let nb = narrowed bl b n0 x place mains has in Homes e nb.ground nb.levels nb.frames (e.level ∷ nb.depths) nb.outer nb.enclosing links k returned)
narrowed_homes bl b n0 x place mains (inl h) links k returned = tt
narrowed_homes bl b n0 x place mains (inr h) links k returned =
    (λ deep owned once. let no : true ≡ false = deep in absurd (cc no), tt)

-- ---- the part

-- what a part may count on, it may count on there
pub narrowed_enough : {e : Environment} {outer : Names} {outers : Types} {block : Names} {types : Types} (bl : Block e block types) (b : Narrows outer outers block types) (place : ℕ) (mains : List Label) (has : HasMain place mains e.level e.block bl.labels bl.outer) {links : Links} {k turns i acts : ℕ} {h t : ℕ → ℕ} {xs : Storage} {s : State} (n : Values) {jumped : ℕ → Family → Services → ℕ → Label → State → Type 0} {returned : ℕ → Family → Services → Option BasicValue → State → Type 0} → AllHold bl.frames bl.serials xs (e.level ∷ bl.depths) s block types n → Enough bl links k turns i h t acts jumped returned → Enough (narrowed bl b n (aside_of outers block types bl.serials s) place mains has) links k turns i h t acts jumped returned
narrowed_enough {e} {outer} {outers} {block} {types} bl b place mains has {links} {k} {acts = acts} {s = s} n {jumped} {returned} all more =
    let x = aside_of outers block types bl.serials s in
    record {
      enough = more.enough;
      later = more.later;
      jumps = λ label among once.
          let o = more.jumps label among once in
          record {
            at = o.at;
            place = o.place;
            near = o.near;
            later = o.later;
            lands = λ s' v' line' n' h' t' f' serving' all' stays' acted at'. o.lands s' v' line' (beside (length outers) n' n) h' t' f' serving' (back_all b all all') stays' acted at';
          };
      outs = narrowed_outs bl b n x place mains has links k acts jumped more.outs;
      returns = more.returns;
      own = λ inner owned once.
          let o = more.own inner owned once in
          record {
            at = o.at;
            place = o.place;
            near = o.near;
            later = o.later;
            leaves = λ s' v' line' n' h' t' f' free serving' all' at'. o.leaves s' v' line' (beside (length outers) n' n) h' t' f' free serving' (back_all b all all') at';
          };
      homes = narrowed_homes bl b n x place mains has links k returned;
    }

-- the machine stands there as it does in the block
narrowed_at : {e : Environment} {block : Names} {types : Types} (bl : Block e block types) (outers : Types) (n : Values) {i : ℕ} {v : Services} {h t : ℕ → ℕ} (f : Family) → ((base : Base) → At base i (Known (bl.ground n) v h t nothing base) (f base)) → (base : Base) → At base i (Known (bl.ground (beside (length outers) n n)) v h t nothing base) (f base)
narrowed_at {types = types} bl outers n {h = h} {t = t} f at base =
    let n1 = beside (length outers) n n in
    let same = beside_self types (length outers) n in
    let q = (at base).holds in
    record {
      pc = (at base).pc;
      holds = record {
        body = record { services = q.body.services; registers = q.body.registers ∙ bl.same n n1 base h; bytes = q.body.bytes; memory = bl.alike n n1 same t base _ q.body.memory };
        regs = q.regs;
      };
    }

pub through_does : {e : Environment} {outer : Names} {outers : Types} {block : Names} {types : Types} (bl : Block e block types) (b : Narrows outer outers block types) (place : ℕ) (mains : List Label) (has : HasMain place mains e.level e.block bl.labels bl.outer) {links : Links} {code : List Instr} {turns : ℕ} {part : Code} {meaning : Meaning (Unit {0})} → ((n0 : Values) (x : Aside) → Does (narrowed bl b n0 x place mains has) links code turns part meaning) → Does bl links code turns part meaning
through_does {e} {outer} {outers} {block} {types} bl b place mains has {links} {code} does' =
    record {
      does = λ {i} {s} {v} {h} {t} {aims} closed line n f k l serving all at goal more.
          (does' n (aside_of outers block types bl.serials s)).does closed line n f k l serving (aside_all b (λ j kind at'. bl.owners j at') all)
          (narrowed_at bl outers n f at)
          (λ s' v' line' n' h' t' f' serving' all' stays' at'. goal s' v' line' (beside (length outers) n' n) h' t' f' serving' (back_all b all all') stays' at')
          (narrowed_enough bl b place mains has n all more);
    }

-- a raise too
pub through_raises : {e : Environment} {outer : Names} {outers : Types} {block : Names} {types : Types} (bl : Block e block types) (b : Narrows outer outers block types) (place : ℕ) (mains : List Label) (has : HasMain place mains e.level e.block bl.labels bl.outer) {links : Links} {code : List Instr} {around : Around} {c : Condition} {oncode : ℕ} → ((n0 : Values) (x : Aside) → Raises (narrowed bl b n0 x place mains has) links code around c oncode) → Raises bl links code around c oncode
through_raises {e} {outer} {outers} {block} {types} bl b place mains has {links} {code} raises' =
    record {
      raises = λ {i} {s} {v} {h} {t} {aims} closed n f credits k start acts a u x at found served parent known paid l serving all there goal more later.
          (raises' n (aside_of outers block types bl.serials s)).raises closed n f credits k start acts a u x at found served parent known paid l serving (aside_all b (λ j kind at'. bl.owners j at') all)
          (narrowed_at bl outers n f there)
          (λ s' v' line' n' h' f' serving' all' as' at'. goal s' v' line' (beside (length outers) n' n) h' f' serving' (back_all b all all') as' at')
          (narrowed_enough bl b place mains has n all more)
          later;
    }

-- what stands beside the block stands beside the narrowed one
pub standing_narrowed : {e : Environment} {outer : Names} {outers : Types} {block : Names} {types : Types} {bl : Block e block types} {links : Links} {code : List Instr} (b : Narrows outer outers block types) (n0 : Values) (x : Aside) (place : ℕ) (mains : List Label) (has : HasMain place mains e.level e.block bl.labels bl.outer) → Standing bl links code → Standing (narrowed bl b n0 x place mains has) links code
standing_narrowed {outers = outers} b n0 x place mains has s =
    record {
      raises = s.raises;
      constants = λ n. constants_moved (λ t. t) (λ t base m o. o) (s.constants (beside (length outers) n n0));
      filled = s.filled;
      known = s.known;
    }

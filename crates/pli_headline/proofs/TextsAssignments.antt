-- Assignments of one text to all elements of an array of the main procedure.
use Rattle.std.proofs.Common.{◌≡◌, ℕ, ◌+◌, ◌-◌, ◌*◌, ◌^◌, ◌<◌, ◌≤◌, List, ◌∷◌, ◌++◌, map, Some, Bool, true, false, refl, sym, ap, ◌∙◌, subst, arith}
use Rattle.std.specs.Prelude.{ℤ, ◌==◌}
use Rattle.std.proofs.Math.Nat.{le-max_left, le-max_right}
use Rattle.std.proofs.lemmas.Bool.{eqb-true}
use Rattle.rv_meaning.specs.declared.instr.Instr.{Instr}
use Rattle.rv_meaning.specs.Memory.{load}
use Rattle.pli_typing.specs.Signatures.{Bounds, element_count}
use Rattle.pli_typing.specs.TypedTree as Y
use Rattle.pli_meaning.specs.World.{counted}
use Rattle.pli_meaning.specs.BasicValues.{BasicValue, BasicText}
use Rattle.pli_meaning.specs.Contents.{is_within, element_place}
use Rattle.pli_meaning.specs.StorageState.{State, with_world}
use Rattle.pli_meaning.specs.Control.{Meaning, act, give, ◌>>=◌, ◌>>◌}
use Rattle.pli_meaning.specs.Raising.{Around, at_line}
use Rattle.pli_meaning.specs.Evaluating as V
use Rattle.pli_meaning.specs.Executing as M
use Rattle.pli_serving.specs.Answers.{Done}
use Rattle.pli_serving.specs.Templates.{template_of, shape_at}
use Rattle.pli_coding.specs.Assembly.{size_of}
use Rattle.pli_coding.specs.Allocating.{act_code}
use Rattle.pli_coding.specs.Environments.{Environment}
use Rattle.pli_coding.specs.Expressions.{text_code}
use Rattle.pli_coding.specs.Storing.{elements_takes, elements_code}
use Rattle.pli_coding.specs.SignatureTable.{table_of}
use Rattle.pli_coding.specs.Linking.{Links}
use Rattle.temporary_bounds.specs.WordBounds.{text_words}
use Rattle.temporary_bounds.specs.Spare.{spare}
use Rattle.temporary_bounds.proofs.TakesNeeds.{text_needs}
use Rattle.pli_headline.specs.ProvedSoFar.{Names, Types, Kind, text_leaf, IsWholeText, IsProvedText}
use Rattle.pli_headline.proofs.Storages.{storage, Storage, Serials, stored_changed}
use Rattle.run_steps.specs.Engine.{address}
use Rattle.run_steps.proofs.Linking.{size_append}
use Rattle.run_steps.specs.Items.{Linked}
use Rattle.run_steps.proofs.Jumps.{front_of, back_of}
use Rattle.pli_headline.proofs.Acts.{acted, act_piece}
use Rattle.run_steps.proofs.Temporaries.{stays_then}
use Rattle.pli_headline.proofs.Scalars.{Values}
use Rattle.pli_headline.proofs.Variables.{whole, own, level_of, data_place}
use Rattle.pli_headline.proofs.States.{Holds, one_type}
use Rattle.pli_headline.proofs.TextStates.{KeepsText, leaf_same}
use Rattle.pli_headline.proofs.PlainNumbers.{number_for, numbered_shape}
use Rattle.pli_headline.proofs.ArrayMeant.{HoldsArray, array_shape, array_beside}
use Rattle.pli_headline.proofs.ArrayNames.{place_of_name}
use Rattle.pli_headline.proofs.ArrayStates.{kind_with, scalar_apart, scalar_beside, text_beside}
use Rattle.pli_headline.proofs.ElementAssignments.{setting_at}
use Rattle.pli_headline.proofs.ElementsPieces.{record_there}
use Rattle.pli_headline.proofs.ElementsAssignments.{array_numbered, own_place}
use Rattle.pli_headline.proofs.Expressions.{text_does}
use Rattle.pli_headline.proofs.Asides.{asides_changed}
use Rattle.pli_headline.proofs.Entered.{Frames}
use Rattle.pli_headline.proofs.Statements.{Block, Standing, AllHold, Does, counted_all}
use Rattle.run_steps.specs.Reach.{Comes}
use Rattle.run_steps.proofs.Reach.{before_closed, comes_on}
use Rattle.pli_headline.proofs.TextArrayMeant.{HoldsTexts, texts_aside}
use Rattle.pli_headline.proofs.TextArrayScopes.{IsTextArrayAt}
use Rattle.pli_headline.proofs.TextArrayStates.{numbers_apart}
use Rattle.pli_headline.proofs.TextsFilled.{texts_filled, filled_numbers, filled_texts, filled_arrays, filled_other, filled_at, texts_from, texts_stand, texts_changed, texts_state, texts_meant, texts_array_filled}
use Rattle.pli_headline.proofs.TextsServed.{texts_answer}
use Rattle.pli_headline.proofs.TextsCode.{text_filling, text_filling_is}
use Rattle.pli_headline.proofs.TextsPieces.{text_filling_piece}
use Rattle.pli_headline.proofs.TakenRooms.{record_grows}

-- ---- what variables hold then

kind_parts : (varying other : Bool) (most most' : ℕ) (bs cs : List Bounds) → kind_with (text_leaf other most') cs ≡ kind_with (text_leaf varying most) bs → ((other ≡ varying) × (most' ≡ most)) × (cs ≡ bs)
kind_parts varying other most most' bs cs e =
    (leaf_same other varying most' most (ap (λ (k : Kind). k.type) e), ap (λ (k : Kind). k.bounds) e)

texts_by : {s : State} {block : Names} {j serial : ℕ} {varying : Bool} {most : ℕ} {bs : List Bounds} (q : Bool) (i other' : ℕ) (other : Bool) (most' : ℕ) (cs : List Bounds) (n : Values) (x : ℕ → List ℕ) (given : ℕ → List ℤ → BasicValue) → (i == j) ≡ q → (i ≡ j → kind_with (text_leaf other most') cs ≡ kind_with (text_leaf varying most) bs) → (i ≡ j → other' ≡ serial) → ((i == j) ≡ false → (serial == other') ≡ false) → most ≤ 1024 → ((is : List ℤ) → is_within bs is ≡ true → given 0 is ≡ BasicText (x (element_place bs is))) → (h : HoldsTexts s block j serial varying most bs (n.text_arrays j)) → HoldsTexts s block i other' other most' cs (n.text_arrays i) → HoldsTexts (texts_state s varying most bs serial h.values given) block i other' other most' cs ((texts_filled n j varying most x 0 (element_count bs)).text_arrays i)
texts_by {s} {block} {j} {serial} {varying} {most} {bs} true i other' other most' cs n x given e alike same' apart few each h o =
    let same : i ≡ j = eqb-true i j e in
    let parts = kind_parts varying other most most' bs cs (alike same) in
    let s' = texts_state s varying most bs serial h.values given in
    let n' = texts_filled n j varying most x 0 (element_count bs) in
    subst (λ m. HoldsTexts s' block i m other most' cs (n'.text_arrays i)) (sym (same' same))
    (subst (λ u. HoldsTexts s' block i serial u most' cs (n'.text_arrays i)) (sym parts.0.0)
    (subst (λ u. HoldsTexts s' block i serial varying u cs (n'.text_arrays i)) (sym parts.0.1)
    (subst (λ ds. HoldsTexts s' block i serial varying most ds (n'.text_arrays i)) (sym parts.1)
    (subst (λ u. HoldsTexts s' block u serial varying most bs (n'.text_arrays u)) (sym same)
    (texts_array_filled x given few each h (n'.text_arrays j) (λ p below. filled_at n j varying most x 0 (element_count bs) p (omega arith) (omega (arith, below))))))))
texts_by {s} {block} {j} {serial} {varying} {most} {bs} false i other' other most' cs n x given e alike same' apart few each h o =
    subst (λ u. HoldsTexts (texts_state s varying most bs serial h.values given) block i other' other most' cs u) (sym (filled_other n j varying most x 0 (element_count bs) i e))
    (texts_aside serial (texts_changed varying most bs serial h.values given) (apart e) o)

pub texts_all : {frames : Frames} {serials : Serials} {xs : Storage} {levels : List ℕ} {s : State} {block : Names} {types : Types} {n : Values} (j : ℕ) (varying : Bool) (most : ℕ) (b : Bounds) (bs : List Bounds) (x : ℕ → List ℕ) (given : ℕ → List ℤ → BasicValue) (below : IsTextArrayAt types j varying most b bs) → most ≤ 1024 → ((is : List ℤ) → is_within (b ∷ bs) is ≡ true → given 0 is ≡ BasicText (x (element_place (b ∷ bs) is))) → (all : AllHold frames serials xs levels s block types n) → AllHold frames serials xs levels (texts_state s varying most (b ∷ bs) (serials.of j) (all.text_arrays j varying most b bs below).values given) block types (texts_filled n j varying most x 0 (element_count (b ∷ bs)))
texts_all {frames = frames} {serials = serials} {s = s} {block = block} {types = types} {n = n} j varying most b bs x given below few each all =
    let h = all.text_arrays j varying most b bs below in
    let type = text_leaf varying most in
    let change = texts_changed varying most (b ∷ bs) (serials.of j) h.values given in
    let s' = texts_state s varying most (b ∷ bs) (serials.of j) h.values given in
    let count = element_count (b ∷ bs) in
    record {
      numbers = λ i c numeric. subst (λ (u : ℕ → ℤ). Holds s' block i (serials.of i) c.0 (u i)) (sym (filled_numbers n j varying most x 0 count)) (scalar_beside (serials.of j) change (all.stored.apart i j c.1 below (scalar_apart types i j c.0 type b bs below c.1)) (all.numbers i c numeric));
      texts = λ i other most' at. subst (λ (u : ℕ → List ℕ). KeepsText s' block i (serials.of i) other most' (u i)) (sym (filled_texts n j varying most x 0 count)) (text_beside (serials.of j) change (all.stored.apart i j at below (scalar_apart types i j (text_leaf other most') type b bs below at)) (all.texts i other most' at));
      arrays = λ i other c cs at. subst (λ (u : ℕ → ℕ → ℤ). HoldsArray s' block i (serials.of i) other (c ∷ cs) (u i)) (sym (filled_arrays n j varying most x 0 count)) (array_beside (serials.of j) change (all.stored.apart i j at.0 below (numbers_apart types i j other c cs varying most b bs below at)) (all.arrays i other c cs at));
      text_arrays = λ i other most' c cs at. texts_by (i == j) i (serials.of i) other most' (c ∷ cs) n x given refl (one_type types i j (kind_with type (b ∷ bs)) (kind_with (text_leaf other most') (c ∷ cs)) below at) (λ e. ap serials.of e) (λ e. all.stored.apart i j at below e) few each h (all.text_arrays i other most' c cs at);
      entered = all.entered;
      framed = all.framed;
      kinds = all.kinds;
      units = all.units;
      aside = asides_changed j change below all.aside;
      stored = stored_changed (serials.of j) change (λ g. refl) all.stored;
    }

-- ---- the statement

text_does_all : {e : Environment} {block : Names} {types : Types} (bl : Block e block types) (links : Links)
    (code : List Instr) (routines : Standing bl links code) (around : Around) (j : ℕ) (varying : Bool) (most : ℕ)
    (b : Bounds) (bs : List Bounds) (x : Y.Text) (line : ℕ) (below : IsTextArrayAt types j varying most b bs)
    → level_of block j ≡ 0 → IsProvedText block types x → bl.taken.words + text_words x ≤ bl.words + spare bl.taken
    → bl.taken.words + 4 ≤ bl.words → line < 2 ^ 31
    → Does bl links code around.turns (act_code line ++ elements_code e bl.taken (whole (own block j))
    (Y.StoredText x)) (M.statement around (Y.AssignElements (whole (own block j)) (Y.StoredText x) line))
unfolding M.statement V.stored_value give ◌>>=◌ ◌>>◌
text_does_all {e} {block} {types} bl links code routines around j varying most b bs x line below outermost is room some fits =
    record {
      does = λ {i} {s} {v} {h} {t} {aims} closed old n f k l serving all at goal more.
          let front = act_code line in
          let target = whole (own block j) in
          let behind = elements_code e bl.taken target (Y.StoredText x) in
          let here = at_line around line in
          let taken = bl.taken in
          let type = text_leaf varying most in
          let kind : Kind = record { type = type; bounds = b ∷ bs } in
          let num = number_for (table_of e.program) kind in
          let level = level_of block j in
          let place = place_of_name e block j in
          let base = bl.bases j in
          let on = bl.text_arrays j varying most b bs below in
          let na = bl.array_names j type b bs below outermost in
          let numbered = array_numbered routines j type (b ∷ bs) on.declared in
          let a = text_code e taken x in
          let fill = text_filling taken (level == e.level) level place num in
          let into' = text_filling_is e taken block j varying most (b ∷ bs) x numbered.held.0 on.bounds routines.known.table on.declared in
          let as_value : List ℕ → Meaning BasicValue = λ u. give (BasicText u) in
          let store : BasicValue → Meaning (Unit {0}) = λ y. M.elements_assigned here target y in
          let next' : Unit {0} → Meaning (Unit {0}) = λ u. (V.stored_value here (Y.StoredText x)) >>= store in
          let size = size_append front behind in
          let size' = size_append a fill in
          let size'' = ap size_of into' in
          let there : i + size_of front + size_of a + size_of fill ≡ i + size_of (front ++ behind) = omega (arith, size, size', size'') in
          let w = bl.words_are n in
          let g = bl.ground n in
          let count = element_count (b ∷ bs) in
          let free = bl.ends in
          let under = on.under in
          let above = g.above_code in
          let inside = g.inside in
          let small' = l.small' in
          let high = na.high in
          let framed = bl.stack.frame_is n in
          let tall = bl.stack.above in
          let few = numbered.few in
          let near : base + place + 16 ≤ 14 * 2 ^ 20 = omega (arith, under, free) in
          let room' : taken.words + 4 ≤ g.words = omega (arith, some, w) in
          comes_on k (act counted k s) next'
          (act_piece (before_closed k next' closed) f line old k fits (front_of front behind l) serving at
          (λ f1 serving1 at1.
          let s1 = with_world (counted s.world) s in
          let all1 : AllHold bl.frames bl.serials (storage v) (e.level ∷ bl.depths) s1 block types n = counted_all _ all in
          let mine = all1.text_arrays j varying most b bs below in
          let l1 = subst (Linked links code (i + size_of front)) into' (back_of front behind l) in
          let v1 = acted line v in
          comes_on k (V.stored_value here (Y.StoredText x) k s1) store
          (comes_on k (V.text here x k s1) as_value
          ((text_does x {e = e} {around = here} (setting_at bl routines here n all1 serving1) is).does (before_closed k as_value (before_closed k store closed)) f1 taken (omega (arith, room, w)) (front_of a fill l1) at1
          (λ text f2 h2 t2 short stays2 at2.
          let n' = texts_filled n j varying most (λ p. text) 0 count in
          let s2 = texts_state s1 varying most (b ∷ bs) (bl.serials.of j) mine.values (λ leaf is'. BasicText text) in
          let r = g.frame - 4 * (taken.words + 4) in
          let change : List ℕ → List ℕ = texts_from varying most (λ p. text) (base + data_place e block j) 0 count in
          let shape : shape_at v1.signatures num ≡ Some (array_shape type (b ∷ bs)) = ap (λ ts. shape_at ts num) (all1.stored.table ∙ ap (λ p. map template_of (table_of p)) bl.named) ∙ numbered_shape (table_of e.program) kind numbered in
          record {
            to = λ early.
                subst (Comes code (i + size_of front + size_of a) f2 _ aims) (sym (texts_meant here (BasicText text) k mine))
                (text_filling_piece (bl.ground n') closed (bl.temps n) f2 taken text (level == e.level) level base place num change room' few (bl.reaches n j below)
                (own_place base na.aligned high na.room) (omega (arith, near)) (own_place g.frame g.whole (omega (arith, above)) (omega (arith, framed, tall, free)))
                (λ t' b' m held. na.own n t' b' m held)
                (λ t' b' m held. subst (λ u. load 4 m (u + 36) ≡ u) (sym framed) (bl.own n t' b' m held))
                (λ b' h'. bl.same n n' b' h')
                (λ b' m y long held.
                texts_answer code v1 m r (base + place) (bl.serials.of j) num varying most (b ∷ bs) na.living text y (omega (arith, above, room', small')) (omega (arith, inside)) (omega (arith, high, small')) (omega (arith, near)) few
                (record_there (bl.temps n) t2 taken.words (base + place) num room' (omega (arith, near)) (omega (arith, few)) b' m held)
                (na.names n _ b' m held) shape on.bounds (all1.stored.first (bl.serials.of j) na.living na.lives).0 na.signature
                ∙ ap (λ u. Done v1 (texts_from varying most (λ p. text) u 0 count m) r 0) na.at)
                (λ b' m long held. texts_stand {ground = bl.ground} on (λ p. text) n 0 count (omega arith) _ b' m long held)
                (back_of a fill l1) at2
                (λ f3 stays3 at3. record {
                  to = λ early.
                      subst (λ u. aims.done u f3 v1 tt s2) (sym there)
                      (goal s2 v1 line n' _ _ f3
                      (record { world = serving1.world; running = serving1.running; line_is = serving1.line_is; input = serving1.input; allowed = serving1.allowed; fits = serving1.fits; nested = serving1.nested; places = serving1.places; waiting = serving1.waiting })
                      (texts_all j varying most b bs (λ p. text) (λ leaf is'. BasicText text) below on.short (λ is' within. refl) all1)
                      (stays_then stays2 stays3)
                      (λ base'. record { pc = (at3 base').pc ∙ ap (address base') there; holds = (at3 base').holds }));
                }));
          })))));
    }

pub elements_text_does : {e : Environment} {block : Names} {types : Types} (bl : Block e block types) (links : Links)
    (code : List Instr) (routines : Standing bl links code) (around : Around) (r : Y.Reference) (x : Y.Text) (line : ℕ)
    → IsWholeText block types r → IsProvedText block types x
    → (elements_takes bl.taken r (Y.StoredText x)).words ≤ bl.words → line < 2 ^ 31
    → Does bl links code around.turns (act_code line ++ elements_code e bl.taken r (Y.StoredText x))
    (M.statement around (Y.AssignElements r (Y.StoredText x) line))
elements_text_does {e} {block} {types} bl links code routines around r x line w is room fits =
    let o = w.whole in
    let a = text_needs bl.taken x in
    let d = record_grows bl.taken r in
    subst (λ q. Does bl links code around.turns (act_code line ++ elements_code e bl.taken q (Y.StoredText x)) (M.statement around (Y.AssignElements q (Y.StoredText x) line))) (sym o.is)
    (text_does_all bl links code routines around o.index w.varying w.most o.bound o.bounds x line o.declared o.outermost is (omega (arith, a, room)) (omega (arith, d, room)) fits)

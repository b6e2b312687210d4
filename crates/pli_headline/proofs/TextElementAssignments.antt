-- Assignments of texts to elements of arrays, and to a variable or an element.
use Rattle.std.proofs.Common.{◌≡◌, ℕ, suc, ◌+◌, ◌*◌, ◌^◌, ◌<◌, ◌≤◌, inl, inr, List, ◌∷◌, ◌++◌, length, Bool, true, refl, sym, ap, ◌∙◌, subst, arith}
use Rattle.std.specs.Prelude.{ℤ}
use Rattle.std.proofs.Math.Nat.{le-max_right}
use Rattle.rv_meaning.specs.declared.instr.Instr.{Instr}
use Rattle.pli_typing.specs.Signatures.{Bounds, element_count}
use Rattle.pli_typing.specs.TypedTree as Y
use Rattle.pli_meaning.specs.Placing as P
use Rattle.pli_meaning.specs.World.{counted}
use Rattle.pli_meaning.specs.BasicValues.{BasicValue, BasicText}
use Rattle.pli_meaning.specs.Contents.{is_within, element_place}
use Rattle.pli_meaning.specs.StorageState.{State, with_world}
use Rattle.pli_meaning.specs.Control.{Meaning, act, give, ◌>>=◌, ◌>>◌}
use Rattle.pli_meaning.specs.Raising.{Around, at_line}
use Rattle.pli_meaning.specs.Evaluating as V
use Rattle.pli_meaning.specs.Executing as M
use Rattle.pli_serving.specs.Stored.{kept_bytes}
use Rattle.pli_serving.specs.ServiceState.{Services, TextEntry}
use Rattle.pli_serving.specs.Outcomes.{pushed}
use Rattle.pli_coding.specs.Assembly.{size_of}
use Rattle.pli_coding.specs.Allocating.{act_code}
use Rattle.pli_coding.specs.Environments.{Environment}
use Rattle.pli_coding.specs.Expressions.{given_in, text_code}
use Rattle.pli_coding.specs.Storing.{top_stored, assigned_code}
use Rattle.pli_coding.specs.Linking.{Links}
use Rattle.temporary_bounds.specs.WordBounds.{text_words, subscripts_words, reference_words}
use Rattle.temporary_bounds.specs.Spare.{spare}
use Rattle.pli_headline.specs.ProvedSoFar.{Names, Types, IsPart, IsProvedText, AreProvedNumbers, AreSubscripts, IsAssignedText, text_leaf}
use Rattle.pli_headline.proofs.Storages.{storage, Storage, Serials, stored_changed}
use Rattle.run_steps.specs.Engine.{Base, address}
use Rattle.run_steps.proofs.Linking.{size_append}
use Rattle.pli_headline.proofs.Scalars.{Values}
use Rattle.run_steps.specs.Items.{Linked, At}
use Rattle.run_steps.specs.Bodies.{Known}
use Rattle.run_steps.specs.Temporaries.{Stays, nothing}
use Rattle.run_steps.proofs.Temporaries.{stays_then}
use Rattle.run_steps.proofs.Jumps.{front_of, back_of}
use Rattle.pli_headline.proofs.WrittenBytes.{length-with_bytes}
use Rattle.pli_headline.proofs.Serving.{Serving}
use Rattle.pli_headline.proofs.Acts.{acted, act_piece}
use Rattle.pli_headline.proofs.Variables.{data_place}
use Rattle.pli_headline.proofs.Expressions.{text_does, subscripts_do, above_texts}
use Rattle.pli_headline.proofs.EditTexts.{at_other_texts}
use Rattle.pli_headline.proofs.ArrayMeant.{element}
use Rattle.pli_headline.proofs.ArrayStates.{scalar_apart, scalar_beside, text_beside}
use Rattle.pli_headline.proofs.ArrayMeant.{array_beside}
use Rattle.pli_headline.proofs.ElementAssignments.{setting_at}
use Rattle.pli_headline.proofs.TextPlaces.{text_kind_of}
use Rattle.pli_headline.proofs.TextsKept.{text_kept_as, kept_length}
use Rattle.pli_headline.proofs.TextArraysStay.{text_stride, text_within}
use Rattle.pli_headline.proofs.TextArrayMeant.{designated_text, text_element_state}
use Rattle.pli_headline.proofs.TextElements.{text_element_stored_piece}
use Rattle.pli_headline.proofs.TextArrayScopes.{IsTextArrayAt, with_text_of, text_array_scope}
use Rattle.pli_headline.proofs.TextArrayStates.{numbers_apart, text_arrays_after}
use Rattle.pli_headline.proofs.TextAssignments.{assign_text_does}
use Rattle.pli_headline.proofs.Asides.{asides_changed}
use Rattle.pli_headline.proofs.Entered.{Frames}
use Rattle.pli_headline.proofs.Statements.{Block, Standing, AllHold, Does, counted_all}
use Rattle.run_steps.specs.Reach.{Family, Aims, Comes, Closed}
use Rattle.run_steps.proofs.Reach.{before_closed, comes_on}

-- what variables hold after a text is assigned to an element
pub text_element_all : {frames : Frames} {serials : Serials} {xs : Storage} {levels : List ℕ} {s : State} {block : Names} {types : Types} {n : Values} (j : ℕ) (varying : Bool) (most : ℕ) (b : Bounds) (bs : List Bounds) (is : List ℤ) (text : List ℕ) (below : IsTextArrayAt types j varying most b bs) → is_within (b ∷ bs) is ≡ true → most ≤ 1024 → (all : AllHold frames serials xs levels s block types n) → AllHold frames serials xs levels (text_element_state s varying most (b ∷ bs) (serials.of j) (all.text_arrays j varying most b bs below).values is text) block types (with_text_of n j (element_place (b ∷ bs) is) (text_kept_as varying most text))
text_element_all {serials = serials} {s = s} {types = types} {n = n} j varying most b bs is text below within few all =
    let h = all.text_arrays j varying most b bs below in
    let type = text_leaf varying most in
    let change = P.with_element (designated_text varying most (b ∷ bs) (serials.of j) h.values is) (BasicText text) in
    record {
      numbers = λ i c numeric. scalar_beside (serials.of j) change (all.stored.apart i j c.1 below (scalar_apart types i j c.0 type b bs below c.1)) (all.numbers i c numeric);
      texts = λ i other most' at. text_beside (serials.of j) change (all.stored.apart i j at below (scalar_apart types i j (text_leaf other most') type b bs below at)) (all.texts i other most' at);
      arrays = λ i other c cs at. array_beside (serials.of j) change (all.stored.apart i j at.0 below (numbers_apart types i j other c cs varying most b bs below at)) (all.arrays i other c cs at);
      text_arrays = λ i other most' c cs at. text_arrays_after serials.of types n is text below within few h i other most' c cs at (λ e. all.stored.apart i j at below e) (all.text_arrays i other most' c cs at);
      entered = all.entered;
      framed = all.framed;
      kinds = all.kinds;
      units = all.units;
      aside = asides_changed j change below all.aside;
      stored = stored_changed (serials.of j) change (λ g. refl) all.stored;
    }

text_serving : {k : ℕ} {s : State} {v : Services} {line : ℕ} (varying : Bool) (most : ℕ) (bs : List Bounds) (serial : ℕ) (values : ℕ → List ℤ → BasicValue) (is : List ℤ) (text : List ℕ) → Serving k s v line → Serving k (text_element_state s varying most bs serial values is text) v line
text_serving varying most bs serial values is text o =
    record { world = o.world; running = o.running; line_is = o.line_is; input = o.input; allowed = o.allowed; fits = o.fits; nested = o.nested; waiting = o.waiting; places = o.places }

-- the top text is assigned to an element
pub element_assigned_piece : {e : Environment} {block : Names} {types : Types} (bl : Block e block types)
    {links : Links} {code : List Instr} (routines : Standing bl links code) {i : ℕ} {v : Services} {h t : ℕ → ℕ}
    {s : State} {aims : Aims (Unit {0})} (closed : Closed code aims) (f : Family) (around : Around) (j : ℕ)
    (varying : Bool) (most : ℕ) (b : Bounds) (bs : List Bounds) (first : Y.Number) (rest : Y.Numbers) (text : List ℕ)
    (n : Values) (k : ℕ) (below : IsTextArrayAt types j varying most b bs) → given_in rest ≡ length bs
    → AreProvedNumbers block types (Y.NumberThen first rest)
    → bl.taken.words + subscripts_words (Y.NumberThen first rest) ≤ bl.words + spare bl.taken
    → Linked links code i (top_stored e bl.taken (element block j first rest)) → Serving k s v around.line
    → (all : AllHold bl.frames bl.serials (storage v) (e.level ∷ bl.depths) s block types n)
    → ((c : Base) → At c i (Known (bl.ground n) (pushed (TextEntry text) v) h t nothing c) (f c))
    → ((s' : State) (n' : Values) (h' t' : ℕ → ℕ) (f' : Family) → Serving k s' v around.line
    → AllHold bl.frames bl.serials (storage v) (e.level ∷ bl.depths) s' block types n' → Stays bl.taken h t h' t'
    → ((c : Base) → At c (i + size_of (top_stored e bl.taken (element block j first rest)))
    (Known (bl.ground n') v h' t' nothing c) (f' c))
    → aims.done (i + size_of (top_stored e bl.taken (element block j first rest))) f' v tt s')
    → Comes code i f (pushed (TextEntry text) v) aims
    (M.assigned around (element block j first rest) (BasicText text) k s)
element_assigned_piece {e} {block} {types} bl routines {v = v} closed f around j varying most b bs first rest text n k below many are room l serving all at goal =
    let mine = all.text_arrays j varying most b bs below in
    let on = bl.text_arrays j varying most b bs below in
    let kept = text_kept_as varying most text in
    let bytes = kept_bytes (text_kind_of varying most) (BasicText text) in
    let long = kept_length varying most text in
    let within = on.within in
    let w = bl.words_are n in
    let texts = TextEntry text ∷ v.entries in
    text_element_stored_piece (λ p. bl.ground (with_text_of n j p kept)) closed routines.raises
    (text_array_scope on n mine (bl.reaches n j below)) f around bl.taken text k first rest
    (subscripts_do (Y.NumberThen first rest) (above_texts texts (setting_at bl routines around n all serving)) are) (ap (λ m. suc m) many) (omega (arith, room, w)) (at_other_texts texts serving)
    (λ p c h'. bl.same n (with_text_of n j p kept) c h')
    (λ p inside t' c m len held.
    let row = text_within varying most p (element_count (b ∷ bs)) inside in
    (length-with_bytes bytes m (bl.bases j + p * text_stride varying most + data_place e block j) (omega (arith, within, row, long, len)) ∙ len, on.writes n p text inside t' c m len held))
    l at
    (λ is f1 h1 t1 inside stays1 at1.
    goal (text_element_state _ varying most (b ∷ bs) (bl.serials.of j) mine.values is text) (with_text_of n j (element_place (b ∷ bs) is) kept) h1 t1 f1 (text_serving varying most (b ∷ bs) (bl.serials.of j) mine.values is text serving) (text_element_all j varying most b bs is text below inside on.short all) stays1 at1)

text_element_does : {e : Environment} {block : Names} {types : Types} (bl : Block e block types) (links : Links)
    (code : List Instr) (routines : Standing bl links code) (around : Around) (j : ℕ) (varying : Bool) (most : ℕ)
    (b : Bounds) (bs : List Bounds) (first : Y.Number) (rest : Y.Numbers) (x : Y.Text) (line : ℕ)
    → IsTextArrayAt types j varying most b bs → given_in rest ≡ length bs
    → AreProvedNumbers block types (Y.NumberThen first rest) → IsProvedText block types x
    → bl.taken.words + text_words x ≤ bl.words + spare bl.taken
    → bl.taken.words + subscripts_words (Y.NumberThen first rest) ≤ bl.words + spare bl.taken → line < 2 ^ 31
    → Does bl links code around.turns (act_code line ++ assigned_code e bl.taken (element block j first rest)
    (Y.StoredText x)) (M.statement around (Y.Assign (element block j first rest) (Y.StoredText x) line))
unfolding M.statement V.stored_value give ◌>>=◌ ◌>>◌
text_element_does {e} {block} {types} bl links code routines around j varying most b bs first rest x line below many are is room some fits =
    record {
      does = λ {i} {s} {v} {h} {t} {aims} closed old n f k l serving all at goal more.
          let front = act_code line in
          let target = element block j first rest in
          let valued' = text_code e bl.taken x in
          let last = top_stored e bl.taken target in
          let behind = assigned_code e bl.taken target (Y.StoredText x) in
          let here = at_line around line in
          let as_value : List ℕ → Meaning BasicValue = λ u. give (BasicText u) in
          let store : BasicValue → Meaning (Unit {0}) = λ y. M.assigned here target y in
          let next' : Unit {0} → Meaning (Unit {0}) = λ u. (V.stored_value here (Y.StoredText x)) >>= store in
          let size = size_append front behind in
          let size1 = size_append valued' last in
          let place : i + size_of front + size_of valued' + size_of last ≡ i + size_of (front ++ behind) = omega (arith, size, size1) in
          let l1 = back_of front behind l in
          let w = bl.words_are n in
          comes_on k (act counted k s) next'
          (act_piece (before_closed k next' closed) f line old k fits (front_of front behind l) serving at
          (λ f1 serving1 at1.
          let s1 = with_world (counted s.world) s in
          let all1 : AllHold bl.frames bl.serials (storage v) (e.level ∷ bl.depths) s1 block types n = counted_all _ all in
          comes_on k (V.stored_value here (Y.StoredText x) k s1) store
          (comes_on k (V.text here x k s1) as_value
          ((text_does x {e = e} {around = here} (setting_at bl routines here n all1 serving1) is).does (before_closed k as_value (before_closed k store closed)) f1 bl.taken (omega (arith, room, w)) (front_of valued' last l1) at1
          (λ text f2 h2 t2 short stays2 at2. record {
            to = λ early.
                element_assigned_piece bl routines closed f2 here j varying most b bs first rest text n k below many are some (back_of valued' last l1) serving1 all1 at2
                (λ s3 n3 h3 t3 f3 serving3 all3 stays3 at3.
                subst (λ u. aims.done u f3 (acted line v) tt s3) (sym place)
                (goal s3 (acted line v) line n3 h3 t3 f3 serving3 all3 (stays_then stays2 stays3)
                (λ c. record { pc = (at3 c).pc ∙ ap (address c) place; holds = (at3 c).holds })));
          })))));
    }

-- ---- a variable or an element

pub assign_text_part_does : {e : Environment} {block : Names} {types : Types} (bl : Block e block types)
    (links : Links) (code : List Instr) (routines : Standing bl links code) (around : Around) (r : Y.Reference)
    (x : Y.Text) (line : ℕ) → IsAssignedText block types r → IsProvedText block types x
    → bl.taken.words + text_words x ≤ bl.words + spare bl.taken
    → bl.taken.words + reference_words r ≤ bl.words + spare bl.taken → line < 2 ^ 31
    → Does bl links code around.turns (act_code line ++ assigned_code e bl.taken r (Y.StoredText x))
    (M.statement around (Y.Assign r (Y.StoredText x) line))
assign_text_part_does {e} {block} {types} bl links code routines around r x line target is room more fits = by_part target.0.part
  where
    by_part : IsPart block types (text_leaf target.0.varying target.0.most) r → Does bl links code around.turns (act_code line ++ assigned_code e bl.taken r (Y.StoredText x)) (M.statement around (Y.Assign r (Y.StoredText x) line))
    by_part (inl o) = assign_text_does bl links code routines around target.0.varying target.0.most r x line o is room fits
    by_part (inr o) =
        let are : AreProvedNumbers block types (Y.NumberThen o.first o.rest) = subst (AreSubscripts block types) o.is target.1 in
        let most = le-max_right 0 (0 + subscripts_words (Y.NumberThen o.first o.rest)) in
        let same = ap reference_words o.is in
        subst (λ q. Does bl links code around.turns (act_code line ++ assigned_code e bl.taken q (Y.StoredText x)) (M.statement around (Y.Assign q (Y.StoredText x) line))) (sym o.is)
        (text_element_does bl links code routines around o.index target.0.varying target.0.most o.bound o.bounds
        o.first o.rest x line o.declared o.many are is room (omega (arith, more, most, same)) fits)

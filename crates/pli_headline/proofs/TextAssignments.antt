-- Assignments of texts to variables of the block that hold texts: cut, and padded where they don't vary.
use Rattle.std.proofs.Common.{refl, ◌≡◌, ℕ, ◌+◌, ◌^◌, ◌<◌, ◌≤◌, List, ◌∷◌, ◌++◌, Bool, sym, ap, ◌∙◌, subst, arith}
use Rattle.rv_meaning.specs.declared.instr.Instr.{Instr}
use Rattle.pli_typing.specs.TypedTree as Y
use Rattle.pli_meaning.specs.Placing as P
use Rattle.pli_meaning.specs.World.{counted}
use Rattle.pli_meaning.specs.BasicValues.{BasicValue, BasicText}
use Rattle.pli_meaning.specs.StorageState.{State, with_world}
use Rattle.pli_meaning.specs.Control.{Meaning, act, give, ◌>>=◌, ◌>>◌}
use Rattle.pli_meaning.specs.Raising.{Around, at_line}
use Rattle.pli_meaning.specs.Evaluating as V
use Rattle.pli_meaning.specs.Executing as M
use Rattle.pli_serving.specs.ServiceState.{Services, TextEntry}
use Rattle.pli_serving.specs.Outcomes.{pushed}
use Rattle.pli_serving.specs.Stored.{kept_bytes}
use Rattle.pli_coding.specs.Assembly.{size_of}
use Rattle.pli_coding.specs.Allocating.{act_code}
use Rattle.pli_coding.specs.Environments.{Environment}
use Rattle.pli_coding.specs.Expressions.{text_code}
use Rattle.pli_coding.specs.Storing.{top_stored, assigned_code}
use Rattle.pli_coding.specs.Linking.{Links}
use Rattle.temporary_bounds.specs.WordBounds.{text_words}
use Rattle.temporary_bounds.specs.Spare.{spare}
use Rattle.pli_headline.specs.ProvedSoFar.{Names, Types, IsProvedText, text_leaf, IsOwn}
use Rattle.pli_headline.proofs.Storages.{storage, Storage, Serials, stored_changed}
use Rattle.run_steps.specs.Engine.{Base, address}
use Rattle.run_steps.proofs.Linking.{size_append}
use Rattle.pli_headline.proofs.Scalars.{Values}
use Rattle.run_steps.specs.Items.{Linked, At}
use Rattle.run_steps.specs.Bodies.{Known}
use Rattle.run_steps.specs.Temporaries.{nothing}
use Rattle.run_steps.proofs.Jumps.{front_of, back_of}
use Rattle.pli_headline.proofs.WrittenBytes.{length-with_bytes}
use Rattle.pli_headline.proofs.Acts.{acted, act_piece}
use Rattle.pli_headline.proofs.Variables.{whole, own, data_place, designated_scalar}
use Rattle.pli_headline.proofs.States.{with_text_at}
use Rattle.pli_headline.proofs.Expressions.{text_does}
use Rattle.pli_headline.proofs.TextPlaces.{text_kind_of}
use Rattle.pli_headline.proofs.TextVariables.{text_state, text_stored_piece}
use Rattle.pli_headline.proofs.TextsKept.{text_kept_as, kept_length}
use Rattle.pli_headline.proofs.TextScopes.{IsTextAt}
use Rattle.pli_headline.proofs.TextStates.{holds_text, holds_other, number_apart, keeps_all}
use Rattle.pli_headline.proofs.Asides.{asides_changed}
use Rattle.pli_headline.proofs.Entered.{Frames}
use Rattle.pli_headline.proofs.Statements.{Block, Standing, AllHold, Does, counted_all}
use Rattle.pli_headline.proofs.Ifs.{setting}
use Rattle.run_steps.specs.Reach.{Family, Aims, Comes, Closed}
use Rattle.run_steps.proofs.Reach.{before_closed, comes_on}
use Rattle.pli_headline.proofs.ArrayStates.{array_apart, arrays_beside_text}
use Rattle.pli_headline.proofs.TextArrayMeant.{texts_aside}

-- what the variables hold when one is assigned a text
pub text_assigned_all : {frames : Frames} {serials : Serials} {xs : Storage} {levels : List ℕ} {s : State} {block : Names} {types : Types} {n : Values} (j : ℕ) (varying : Bool) (most : ℕ) (text : List ℕ) (below : IsTextAt types j varying most) → most ≤ 1024 → (all : AllHold frames serials xs levels s block types n) → AllHold frames serials xs levels (text_state s (text_leaf varying most) (serials.of j) (all.texts j varying most below).values text) block types (with_text_at n j (text_kept_as varying most text))
text_assigned_all {frames = frames} {serials = serials} {s = s} {types = types} {n = n} j varying most text below few all =
    let h = all.texts j varying most below in
    record {
      numbers = λ i b numeric. holds_other text (all.stored.apart i j b.1 below (number_apart types i j b.0 varying most below b.1 numeric)) h (all.numbers i b numeric);
      texts = λ i other most' at. keeps_all serials.of types n text below few h i other most' at (λ e. all.stored.apart i j at below e) (all.texts i other most' at);
      arrays = λ i type b bs at. arrays_beside_text (text_leaf varying most) (serials.of j) h.values text (all.stored.apart i j at.0 below (array_apart types i j (text_leaf varying most) type b bs below at.0)) (all.arrays i type b bs at);
      text_arrays = λ i other most' b bs at. texts_aside (serials.of j) (P.with_element (designated_scalar (text_leaf varying most) (serials.of j) h.values) (BasicText text)) (all.stored.apart i j at below (array_apart types i j (text_leaf varying most) (text_leaf other most') b bs below at)) (all.text_arrays i other most' b bs at);
      entered = all.entered;
      framed = all.framed;
      kinds = all.kinds;
      units = all.units;
      aside = asides_changed j (P.with_element (designated_scalar (text_leaf varying most) (serials.of j) h.values) (BasicText text)) below all.aside;
      stored = stored_changed (serials.of j) (P.with_element (designated_scalar (text_leaf varying most) (serials.of j) h.values) (BasicText text)) (λ g. refl) all.stored;
    }

-- the top text is assigned to a variable of the block
pub assigned_piece : {e : Environment} {block : Names} {types : Types} (bl : Block e block types) {links : Links} {code : List Instr} {i : ℕ} {v : Services} {h t : ℕ → ℕ} {s : State} {aims : Aims (Unit {0})} (closed : Closed code aims) (f : Family) (around : Around) (j : ℕ) (varying : Bool) (most : ℕ) (text : List ℕ) (n : Values) (k : ℕ) (below : IsTextAt types j varying most) → Linked links code i (top_stored e bl.taken (whole (own block j))) → (all : AllHold bl.frames bl.serials (storage v) (e.level ∷ bl.depths) s block types n) → ((b : Base) → At b i (Known (bl.ground n) (pushed (TextEntry text) v) h t nothing b) (f b)) → ((f' : Family) → ((b : Base) → At b (i + size_of (top_stored e bl.taken (whole (own block j)))) (Known (bl.ground (with_text_at n j (text_kept_as varying most text))) v h t nothing b) (f' b)) → aims.done (i + size_of (top_stored e bl.taken (whole (own block j)))) f' v tt (text_state s (text_leaf varying most) (bl.serials.of j) (all.texts j varying most below).values text)) → Comes code i f (pushed (TextEntry text) v) aims (M.assigned around (whole (own block j)) (BasicText text) k s)
assigned_piece {e} {block} {types} bl {t = t} closed f around j varying most text n k below l all at goal =
    let mine = all.texts j varying most below in
    let kept = text_kept_as varying most text in
    let bytes = kept_bytes (text_kind_of varying most) (BasicText text) in
    let long = kept_length varying most text in
    let o = bl.bases j + data_place e block j in
    let inside = bl.texts.room.inside j varying most below in
    let above = (bl.places j below).inside in
    text_stored_piece (bl.ground (with_text_at n j kept)) closed f varying e around bl.taken block j most (bl.bases j) (n.texts j) text k (bl.texts.room.short j varying most below) (bl.declared j below) (holds_text mine) (bl.reaches n j below) (bl.texts.room.high j varying most below) inside (omega (arith, above))
    (λ b h'. bl.same n (with_text_at n j kept) b h')
    (λ b m len held. (length-with_bytes bytes m o (omega (arith, inside, long, len)) ∙ len, bl.texts.writes n j varying most text below t b m len held))
    l at goal

text_assigned_does : {e : Environment} {block : Names} {types : Types} (bl : Block e block types) (links : Links)
    (code : List Instr) (routines : Standing bl links code) (around : Around) (j : ℕ) (varying : Bool) (most : ℕ)
    (x : Y.Text) (line : ℕ) → IsTextAt types j varying most → IsProvedText block types x
    → bl.taken.words + text_words x ≤ bl.words + spare bl.taken → line < 2 ^ 31
    → Does bl links code around.turns (act_code line ++ assigned_code e bl.taken (whole (own block j))
    (Y.StoredText x)) (M.statement around (Y.Assign (whole (own block j)) (Y.StoredText x) line))
unfolding M.statement V.stored_value give ◌>>=◌ ◌>>◌
text_assigned_does {e} {block} {types} bl links code routines around j varying most x line below is room fits =
    record {
      does = λ {i} {s} {v} {h} {t} {aims} closed old n f k l serving all at goal more.
          let front = act_code line in
          let target = whole (own block j) in
          let valued' = text_code e bl.taken x in
          let last = top_stored e bl.taken target in
          let rest = assigned_code e bl.taken target (Y.StoredText x) in
          let here = at_line around line in
          let as_value : List ℕ → Meaning BasicValue = λ u. give (BasicText u) in
          let store : BasicValue → Meaning (Unit {0}) = λ y. M.assigned here target y in
          let next' : Unit {0} → Meaning (Unit {0}) = λ u. (V.stored_value here (Y.StoredText x)) >>= store in
          let size = size_append front rest in
          let size1 = size_append valued' last in
          let place : i + size_of front + size_of valued' + size_of last ≡ i + size_of (front ++ rest) = omega (arith, size, size1) in
          let l1 = back_of front rest l in
          let w = bl.words_are n in
          let few = bl.texts.room.short j varying most below in
          comes_on k (act counted k s) next'
          (act_piece (before_closed k next' closed) f line old k fits (front_of front rest l) serving at
          (λ f1 serving1 at1.
          let s1 = with_world (counted s.world) s in
          let all1 : AllHold bl.frames bl.serials (storage v) (e.level ∷ bl.depths) s1 block types n = counted_all _ all in
          let mine = all1.texts j varying most below in
          comes_on k (V.stored_value here (Y.StoredText x) k s1) store
          (comes_on k (V.text here x k s1) as_value
          ((text_does x {e = e} {around = here} (setting bl routines n all1 serving1) is).does (before_closed k as_value (before_closed k store closed)) f1 bl.taken (omega (arith, room, w)) (front_of valued' last l1) at1
          (λ text f2 h2 t2 short stays2 at2. record {
            to = λ early.
                let kept = text_kept_as varying most text in
                let s2 = text_state s1 (text_leaf varying most) (bl.serials.of j) mine.values text in
                assigned_piece bl closed f2 here j varying most text n k below (back_of valued' last l1) all1 at2
                (λ f3 at3.
                subst (λ u. aims.done u f3 (acted line v) tt s2) (sym place)
                (goal s2 (acted line v) line (with_text_at n j kept) h2 t2 f3
                (record { world = serving1.world; running = serving1.running; line_is = serving1.line_is; input = serving1.input; allowed = serving1.allowed; fits = serving1.fits; nested = serving1.nested; waiting = serving1.waiting; places = serving1.places })
                (text_assigned_all j varying most text below few all1)
                stays2
                (λ b. record { pc = (at3 b).pc ∙ ap (address b) place; holds = (at3 b).holds })));
          })))));
    }

pub assign_text_does : {e : Environment} {block : Names} {types : Types} (bl : Block e block types) (links : Links)
    (code : List Instr) (routines : Standing bl links code) (around : Around) (varying : Bool) (most : ℕ)
    (r : Y.Reference) (x : Y.Text) (line : ℕ) → IsOwn block types (text_leaf varying most) r
    → IsProvedText block types x → bl.taken.words + text_words x ≤ bl.words + spare bl.taken → line < 2 ^ 31
    → Does bl links code around.turns (act_code line ++ assigned_code e bl.taken r (Y.StoredText x))
    (M.statement around (Y.Assign r (Y.StoredText x) line))
assign_text_does {e} bl links code routines around varying most r x line own' is room fits =
    subst (λ q. Does bl links code around.turns (act_code line ++ assigned_code e bl.taken q (Y.StoredText x)) (M.statement around (Y.Assign q (Y.StoredText x) line))) (sym own'.is)
    (text_assigned_does bl links code routines around own'.index varying most x line own'.declared is room fits)

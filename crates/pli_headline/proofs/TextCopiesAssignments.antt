-- Assignments of one array of texts to another with equal bounds, whatever the lengths of their elements.
use Rattle.std.proofs.Common.{inl, inr, ◌≡◌, ℕ, ◌+◌, ◌-◌, ◌*◌, ◌^◌, ◌<◌, ◌≤◌, List, ◌∷◌, ◌++◌, map, Some, Bool, true, false, refl, sym, ap, ◌∙◌, subst, arith}
use Rattle.std.specs.Prelude.{ℤ, max}
use Rattle.std.proofs.Math.Nat.{le-max_right}
use Rattle.rv_meaning.specs.declared.instr.Instr.{Instr}
use Rattle.pli_typing.specs.Signatures.{Bounds, element_count}
use Rattle.pli_typing.specs.TypedTree as Y
use Rattle.pli_meaning.specs.World.{counted}
use Rattle.pli_meaning.specs.BasicValues.{BasicValue}
use Rattle.pli_meaning.specs.StorageState.{with_world}
use Rattle.pli_meaning.specs.Control.{Meaning, act, ◌>>=◌, ◌>>◌}
use Rattle.pli_meaning.specs.Raising.{Around, at_line}
use Rattle.pli_meaning.specs.Placing as P
use Rattle.pli_meaning.specs.Executing as M
use Rattle.pli_serving.specs.Answers.{Done}
use Rattle.pli_serving.specs.Templates.{template_of, shape_at}
use Rattle.pli_coding.specs.Assembly.{size_of}
use Rattle.pli_coding.specs.Allocating.{act_code}
use Rattle.pli_coding.specs.Environments.{Environment}
use Rattle.pli_coding.specs.Storing.{aggregate_code}
use Rattle.pli_coding.specs.SignatureTable.{table_of}
use Rattle.pli_coding.specs.Linking.{Links}
use Rattle.pli_headline.specs.ProvedSoFar.{Names, Types, Kind, text_leaf, AreAlikeTexts, AreCopied}
use Rattle.pli_headline.proofs.Storages.{storage}
use Rattle.run_steps.specs.Engine.{address}
use Rattle.run_steps.proofs.Linking.{size_append}
use Rattle.run_steps.specs.Items.{Linked}
use Rattle.run_steps.proofs.Jumps.{front_of, back_of}
use Rattle.pli_headline.proofs.Acts.{acted, act_piece}
use Rattle.pli_headline.proofs.Variables.{whole, own, level_of, data_place}
use Rattle.pli_headline.proofs.PlainNumbers.{number_for, numbered_shape}
use Rattle.pli_headline.proofs.ArrayMeant.{array_shape}
use Rattle.pli_headline.proofs.ArrayNames.{place_of_name}
use Rattle.pli_headline.proofs.ArrayStates.{kind_with}
use Rattle.pli_headline.proofs.ElementsPieces.{record_there}
use Rattle.pli_headline.proofs.ElementsAssignments.{array_numbered}
use Rattle.pli_headline.proofs.Statements.{Block, Standing, AllHold, Does, counted_all}
use Rattle.run_steps.specs.Reach.{Comes}
use Rattle.run_steps.proofs.Reach.{before_closed, comes_on}
use Rattle.pli_headline.proofs.TextArrayMeant.{same_text_array}
use Rattle.pli_headline.proofs.CopiesFilled.{given_by_source, copy_meant}
use Rattle.pli_headline.proofs.TextCopiesServed.{texts_taken, take_texts, put_texts}
use Rattle.pli_headline.proofs.CopiesCode.{place_with, copying, copying_is}
use Rattle.pli_headline.proofs.CopiesPieces.{copying_piece}
use Rattle.pli_headline.proofs.CopiesAssignments.{named_reached, frame_known, alike_does}
use Rattle.pli_headline.proofs.TextElements.{text_size_constant}
use Rattle.pli_headline.proofs.TextPlaces.{text_kind_of, TextThere}
use Rattle.pli_headline.proofs.TextArraysStay.{text_stride}
use Rattle.pli_headline.proofs.TextArrayScopes.{IsTextArrayAt}
use Rattle.pli_headline.proofs.TextsFilled.{texts_filled, texts_from, texts_stand, texts_state}
use Rattle.pli_headline.proofs.TextsAssignments.{texts_all}
use Rattle.pli_meaning.specs.Contents.{seen}

source_gives : (varying : Bool) (most : ℕ) (bs : List Bounds) (serial : ℕ) (values : ℕ → List ℤ → BasicValue) (is : List ℤ) → given_by_source (text_leaf varying most) bs serial values 0 is ≡ seen (text_kind_of varying most) (values 0 is)
source_gives false most bs serial values is = refl
source_gives true most bs serial values is = refl

copy_texts : {e : Environment} {block : Names} {types : Types} (bl : Block e block types) (links : Links) (code : List Instr) (routines : Standing bl links code) (around : Around) (j i : ℕ) (varying : Bool) (most other : ℕ) (b : Bounds) (bs : List Bounds) (line : ℕ) (below : IsTextArrayAt types j varying most b bs) (below' : IsTextArrayAt types i varying other b bs) → level_of block j ≡ 0 → level_of block i ≡ 0 → bl.taken.words + 4 ≤ bl.words → line < 2 ^ 31 → Does bl links code around.turns (act_code line ++ aggregate_code e bl.taken (whole (own block j)) (whole (own block i))) (M.statement around (Y.AssignAggregate (whole (own block j)) (whole (own block i)) line))
unfolding M.statement ◌>>=◌ ◌>>◌
copy_texts {e} {block} {types} bl links code routines around j i varying most other b bs line below below' outermost outermost' some fits =
    record {
      does = λ {i = at'} {s} {v} {h} {t} {aims} closed old n f k l serving all at goal more.
          let front = act_code line in
          let target = whole (own block j) in
          let source = whole (own block i) in
          let behind = aggregate_code e bl.taken target source in
          let here = at_line around line in
          let taken = bl.taken in
          let type = text_leaf varying most in
          let type' = text_leaf varying other in
          let kind : Kind = record { type = type; bounds = b ∷ bs } in
          let kind' : Kind = record { type = type'; bounds = b ∷ bs } in
          let num = number_for (table_of e.program) kind in
          let num' = number_for (table_of e.program) kind' in
          let on = bl.text_arrays j varying most b bs below in
          let on' = bl.text_arrays i varying other b bs below' in
          let na = bl.array_names j type b bs below outermost in
          let na' = bl.array_names i type' b bs below' outermost' in
          let numbered = array_numbered routines j type (b ∷ bs) on.declared in
          let numbered' = array_numbered routines i type' (b ∷ bs) on'.declared in
          let constant = text_size_constant varying most (b ∷ bs) on.declared.0 in
          let constant' = text_size_constant varying other (b ∷ bs) on'.declared.0 in
          let from = place_with e block i num' in
          let to' = place_with e block j num in
          let fill = copying taken from to' in
          let into' = copying_is e taken block j i type type' (b ∷ bs) (b ∷ bs) on.declared on'.declared constant constant' numbered.held.0 numbered'.held.0 on.bounds on'.bounds routines.known.table in
          let next' : Unit {0} → Meaning (Unit {0}) = λ u. P.aggregate_assigned here target source in
          let size = size_append front behind in
          let size' = ap size_of into' in
          let there : at' + size_of front + size_of fill ≡ at' + size_of (front ++ behind) = omega (arith, size, size') in
          let w = bl.words_are n in
          let g = bl.ground n in
          let count = element_count (b ∷ bs) in
          let free = bl.ends in
          let under = on.under in
          let under' = on'.under in
          let above = g.above_code in
          let inside = g.inside in
          let small' = l.small' in
          let high = na.high in
          let high' = na'.high in
          let few = numbered.few in
          let few' = numbered'.few in
          let base = bl.bases j in
          let base' = bl.bases i in
          let near : base + place_of_name e block j + 16 ≤ 14 * 2 ^ 20 = omega (arith, under, free) in
          let near' : base' + place_of_name e block i + 16 ≤ 14 * 2 ^ 20 = omega (arith, under', free) in
          let room' : taken.words + 4 ≤ g.words = omega (arith, some, w) in
          comes_on k (act counted k s) next'
          (act_piece (before_closed k next' closed) f line old k fits (front_of front behind l) serving at
          (λ f1 serving1 at1.
          let s1 = with_world (counted s.world) s in
          let all1 : AllHold bl.frames bl.serials (storage v) (e.level ∷ bl.depths) s1 block types n = counted_all _ all in
          let mine = all1.text_arrays j varying most b bs below in
          let hers = all1.text_arrays i varying other b bs below' in
          let x = n.text_arrays i in
          let given = given_by_source type' (b ∷ bs) (bl.serials.of i) hers.values in
          let l1 = subst (Linked links code (at' + size_of front)) into' (back_of front behind l) in
          let v1 = acted line v in
          let n' = texts_filled n j varying most x 0 count in
          let s2 = texts_state s1 varying most (b ∷ bs) (bl.serials.of j) mine.values given in
          let r = g.frame - 4 * (taken.words + 4) in
          let same = same_text_array varying most (b ∷ bs) in
          let same' = same_text_array varying other (b ∷ bs) in
          let change : List ℕ → List ℕ = texts_from varying most x (base + data_place e block j) 0 count in
          let shape : shape_at v1.signatures num ≡ Some (array_shape type (b ∷ bs)) = ap (λ ts. shape_at ts num) (all1.stored.table ∙ ap (λ p. map template_of (table_of p)) bl.named) ∙ numbered_shape (table_of e.program) kind numbered in
          let shape' : shape_at v1.signatures num' ≡ Some (array_shape type' (b ∷ bs)) = ap (λ ts. shape_at ts num') (all1.stored.table ∙ ap (λ p. map template_of (table_of p)) bl.named) ∙ numbered_shape (table_of e.program) kind' numbered' in
          subst (Comes code (at' + size_of front) f1 v1 aims) (sym (copy_meant s1 here (own block j) (own block i) type type' (b ∷ bs) (bl.serials.of j) (bl.serials.of i) mine.values hers.values k same same' mine.stands mine.lives hers.stands hers.lives))
          (copying_piece (bl.ground n') closed (bl.temps n) f1 taken (texts_taken varying other (b ∷ bs) x) from to' base' base change room'
          (named_reached bl n i kind' num' below' na' few' (omega (arith, near')))
          (named_reached bl n j kind num below na few (omega (arith, near)))
          (frame_known bl n)
          (λ b' h'. bl.same n n' b' h')
          (λ t' b' m long held.
          take_texts code v1 m r (base' + place_of_name e block i) (bl.serials.of i) num' varying other (b ∷ bs) na'.living x (omega (arith, above, room', small')) (omega (arith, inside)) (omega (arith, high', small')) (omega (arith, near')) few'
          (record_there (bl.temps n) t' taken.words (base' + place_of_name e block i) num' room' (omega (arith, near')) (omega (arith, few')) b' m held)
          (na'.names n _ b' m held) shape' on'.bounds (all1.stored.first (bl.serials.of i) na'.living na'.lives).0 na'.signature
          (λ p inside'.
          let q = na'.at in
          let a : base' + p * text_stride varying other + data_place e block i ≡ na'.living.at + p * text_stride varying other = omega (arith, q) in
          subst (λ u. TextThere varying other u m (x p)) a (on'.reads n p inside' _ b' m held)))
          (λ t' b' m long held.
          put_texts code v1 m r (base + place_of_name e block j) (bl.serials.of j) num varying most other (b ∷ bs) na.living x (omega (arith, above, room', small')) (omega (arith, inside)) (omega (arith, high, small')) (omega (arith, near)) few
          (record_there (bl.temps n) t' taken.words (base + place_of_name e block j) num room' (omega (arith, near)) (omega (arith, few)) b' m held)
          (na.names n _ b' m held) shape on.bounds (all1.stored.first (bl.serials.of j) na.living na.lives).0 na.signature
          ∙ ap (λ u. Done v1 (texts_from varying most x u 0 count m) r 0) na.at)
          (λ t' b' m long held. texts_stand {ground = bl.ground} on x n 0 count (omega arith) t' b' m long held)
          l1 at1
          (λ f2 t2 stays2 at2. record {
            to = λ early.
                subst (λ u. aims.done u f2 v1 tt s2) (sym there)
                (goal s2 v1 line n' _ _ f2
                (record { world = serving1.world; running = serving1.running; line_is = serving1.line_is; input = serving1.input; allowed = serving1.allowed; fits = serving1.fits; nested = serving1.nested; places = serving1.places; waiting = serving1.waiting })
                (texts_all j varying most b bs x given below on.short (λ is within. source_gives varying other (b ∷ bs) (bl.serials.of i) hers.values is ∙ hers.value is within) all1)
                stays2
                (λ c. record { pc = (at2 c).pc ∙ ap (address c) there; holds = (at2 c).holds }));
          }))));
    }

alike_texts_does : {e : Environment} {block : Names} {types : Types} (bl : Block e block types) (links : Links)
    (code : List Instr) (routines : Standing bl links code) (around : Around) (target source : Y.Reference) (line : ℕ)
    → AreAlikeTexts block types target source → bl.taken.words + 4 ≤ bl.words → line < 2 ^ 31
    → Does bl links code around.turns (act_code line ++ aggregate_code e bl.taken target source)
    (M.statement around (Y.AssignAggregate target source line))
alike_texts_does {e} {block} {types} bl links code routines around target source line o room fits =
    let taken : IsTextArrayAt types o.source_is.index o.varying o.other o.target_is.bound o.target_is.bounds =
    o.source_is.declared ∙ ap (λ cs. Some (kind_with (text_leaf o.varying o.other) cs)) o.alike in
    subst (λ q. Does bl links code around.turns (act_code line ++ aggregate_code e bl.taken q source) (M.statement around (Y.AssignAggregate q source line))) (sym o.target_is.is)
    (subst (λ q. Does bl links code around.turns (act_code line ++ aggregate_code e bl.taken (whole (own block o.target_is.index)) q) (M.statement around (Y.AssignAggregate (whole (own block o.target_is.index)) q line))) (sym o.source_is.is)
    (copy_texts bl links code routines around o.target_is.index o.source_is.index o.varying o.most o.other
    o.target_is.bound o.target_is.bounds line o.target_is.declared taken o.target_is.outermost o.source_is.outermost
    room fits))

-- numbers, bits or texts
pub copies_does : {e : Environment} {block : Names} {types : Types} (bl : Block e block types) (links : Links)
    (code : List Instr) (routines : Standing bl links code) (around : Around) (target source : Y.Reference) (line : ℕ)
    → AreCopied block types target source → bl.taken.words + 4 ≤ bl.words → line < 2 ^ 31
    → Does bl links code around.turns (act_code line ++ aggregate_code e bl.taken target source)
    (M.statement around (Y.AssignAggregate target source line))
copies_does bl links code routines around target source line (inl o) room fits =
    alike_does bl links code routines around target source line o room fits
copies_does bl links code routines around target source line (inr o) room fits =
    alike_texts_does bl links code routines around target source line o room fits

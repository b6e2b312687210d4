-- The main procedure's block: its variables, numbers and texts, stand in its frame behind one another.
use Rattle.std.proofs.Common.{◌≡◌, ℕ, suc, ◌+◌, ◌<◌, ◌≤◌, List, [], length, Option, Some, Bool, true, false, refl, sym, ap, ◌∙◌, subst, arith, ◌∷◌, ◌*◌, ◌^◌}
use Rattle.std.specs.Prelude.{pos, cond, ◌==◌, slice_get}
use Rattle.rv_meaning.specs.Words.{word}
use Rattle.rv_meaning.specs.Memory.{load, store}
use Rattle.rv_meaning.specs.Machine.{load_width, extended, store_width}
use Rattle.pli_language.specs.declared.condition.Condition.{Condition}
use Rattle.pli_typing.specs.TypedTree as Y
use Rattle.pli_meaning.specs.BasicValues.{BasicText}
use Rattle.pli_serving.specs.Bytes.{with_bytes}
use Rattle.pli_serving.specs.Stored.{kept_bytes}
use Rattle.pli_coding.specs.Environments.{Environment, none_taken}
use Rattle.run_steps.specs.Bodies.{Ground}
use Rattle.pli_headline.proofs.Storages.{Serials}
use Rattle.pli_headline.specs.ProvedSoFar.{Names, Types, text_leaf, IsScalar, alone, IsHeld, AreBounds, Kind}
use Rattle.pli_headline.proofs.Scalars.{Values, load_kind, store_kind, kind_at, kind_is, place_below, place_taken}
use Rattle.pli_headline.proofs.VariablePlaces.{frame_size, room_of, number_place, room_before, room_next, room_even, data_fits, scalar_data_size, data_some, word_each}
use Rattle.run_steps.specs.Reaching.{Reaches}
use Rattle.pli_headline.proofs.Variables.{data_place, HasTypes, level_of}
use Rattle.pli_headline.proofs.States.{with_number_at, with_text_at}
use Rattle.pli_headline.proofs.TextPlaces.{text_kind_of, text_bytes, TextThere}
use Rattle.pli_headline.proofs.TextsKept.{text_kept_as}
use Rattle.pli_headline.proofs.Holdings.{There, size_in, content_text, content_fits, content_for}
use Rattle.pli_serving.specs.ServiceState as S
use Rattle.pli_coding.specs.SignatureTable.{table_of}
use Rattle.pli_headline.proofs.PlainNumbers.{number_for}
use Rattle.pli_headline.proofs.NamesStand.{NameThere, name_place}
use Rattle.pli_headline.proofs.ArrayNames.{ArraysNamed, place_of_name}
use Rattle.pli_headline.proofs.MainGround.{Frame, Stands, ground_of, main_temporaries, contents, main_writes, place_at, reads_by, main_keeps, lowest_holds, main_keeps_bytes, stands_same}
use Rattle.pli_headline.proofs.MainTexts.{text_writes}
use Rattle.pli_headline.proofs.TextScopes.{IsTextAt}
use Rattle.pli_headline.proofs.TextGrounds.{TextsStand}
use Rattle.pli_headline.proofs.Entered.{lone}
use Rattle.pli_headline.proofs.Statements.{Stack, Block, SameValues}
use Rattle.pli_typing.specs.Signatures.{Bounds, element_count}
use Rattle.pli_headline.proofs.ArrayScopes.{IsArrayAt, ArraysOn}
use Rattle.pli_headline.proofs.ArrayGrounds.{array_in, main_array}
use Rattle.pli_coding.specs.Frames.{frame_end}
use Rattle.std.proofs.Math.Nat.{mul-le-mul_left, mul_comm}
use Rattle.pli_headline.proofs.TextArraysStay.{text_stride}
use Rattle.pli_headline.proofs.TextArrayScopes.{IsTextArrayAt, TextArraysOn}
use Rattle.pli_headline.proofs.TextArrayGrounds.{TextArrayFits, main_text_array}

-- the texts of a frame are short, and have room there, and so have arrays, and services know where the variables stand
pub record VariablesFit (f : Frame) (program : Y.Program) (served : ℕ → Option S.Living) (types : Types) : Type 0 where
  pub bounds : (j : ℕ) (type : Y.LeafType) (b : Bounds) (bs : List Bounds) → IsArrayAt types j type b bs → AreBounds (b ∷ bs)
  pub size : (j : ℕ) (type : Y.LeafType) (b : Bounds) (bs : List Bounds) → IsArrayAt types j type b bs → 16 + 4 * element_count (b ∷ bs) ≤ f.sizes.of j
  pub few : (j : ℕ) (type : Y.LeafType) (b : Bounds) (bs : List Bounds) → IsArrayAt types j type b bs → j < f.count → element_count (b ∷ bs) ≤ 2 ^ 20
  pub text_arrays : (j : ℕ) (varying : Bool) (most : ℕ) (b : Bounds) (bs : List Bounds) → IsTextArrayAt types j varying most b bs → j < f.count → TextArrayFits f j varying most (b ∷ bs)
  pub short : (j : ℕ) (varying : Bool) (most : ℕ) → IsTextAt types j varying most → most ≤ 1024
  pub room : (j : ℕ) (varying : Bool) (most : ℕ) → IsTextAt types j varying most → 16 + text_bytes varying most ≤ f.sizes.of j
  pub living : (j : ℕ) (kind : Kind) → slice_get types j ≡ Some kind → j < f.count → served (suc j) ≡ Some (record { serial = suc j; owner = 1; signature = number_for (table_of program) kind; at = f.at + number_place f.sizes j })

pub text_few : (varying : Bool) (most : ℕ) → IsScalar (text_leaf varying most) → most ≤ 1024
text_few false most is = is.1
text_few true most is = is.1

pub text_some : (varying : Bool) (most : ℕ) → IsScalar (text_leaf varying most) → 1 ≤ most
text_some false most is = is.0
text_some true most is = is.0

pub text_data : (varying : Bool) (most : ℕ) → scalar_data_size (text_leaf varying most) ≡ text_stride varying most
text_data false most = refl
text_data true most = refl

count_few : (count stride size : ℕ) → 0 < stride → count * stride ≤ size → count ≤ size
count_few count stride size some few =
    let least : count * 1 ≤ count * stride = mul-le-mul_left count some in
    omega (arith, few, least)

-- an array of texts that has the bytes of its kind
array_fits : (f : Frame) (types : Types) (j : ℕ) (varying : Bool) (most : ℕ) (b : Bounds) (bs : List Bounds) → f.sizes.of j ≡ frame_size (kind_at types j) → room_of f.sizes f.count ≤ 2 ^ 20 → IsTextArrayAt types j varying most b bs → IsHeld (text_leaf varying most) (b ∷ bs) → j < f.count → TextArrayFits f j varying most (b ∷ bs)
array_fits f types j varying most b bs sized small' at held among =
    let kind : Kind = record { type = text_leaf varying most; bounds = b ∷ bs } in
    let count = element_count (b ∷ bs) in
    let stride = text_stride varying most in
    let laid : scalar_data_size (text_leaf varying most) * count ≡ count * stride = ap (λ u. u * count) (text_data varying most) ∙ mul_comm stride count in
    let fits = data_fits kind held in
    let is : f.sizes.of j ≡ frame_size kind = sized ∙ ap frame_size (kind_is types j at) in
    let size : 16 + count * stride ≤ f.sizes.of j = omega (arith, fits, laid, is) in
    let next' = room_next f.sizes j f.count among in
    let some : 0 < stride = subst (λ u. 0 < u) (text_data varying most) (data_some (text_leaf varying most) held.0) in
    record {
      bounds = held.1.0;
      size = size;
      few = count_few count stride (2 ^ 20) some (omega (arith, size, next', small'));
      some = text_some varying most held.0;
      short = text_few varying most held.0;
    }

text_fits : (varying : Bool) (most : ℕ) → IsScalar (text_leaf varying most) → 16 + text_bytes varying most ≤ frame_size (alone (text_leaf varying most))
text_fits varying most is =
    subst (λ c. 16 + size_in c ≤ frame_size (alone (text_leaf varying most))) (content_text varying most (pos 0) []) (content_fits (alone (text_leaf varying most)) (pos 0) [] (λ p. pos 0) (λ p. []) is)

-- where each variable has the bytes of its kind
pub types_fit : (f : Frame) (program : Y.Program) (served : ℕ → Option S.Living) (types : Types) → ((j : ℕ) (kind : Kind) → slice_get types j ≡ Some kind → j < f.count → served (suc j) ≡ Some (record { serial = suc j; owner = 1; signature = number_for (table_of program) kind; at = f.at + number_place f.sizes j })) → ((j : ℕ) → f.sizes.of j ≡ frame_size (kind_at types j)) → room_of f.sizes f.count ≤ 2 ^ 20 → ((j : ℕ) (kind : Kind) → slice_get types j ≡ Some kind → IsHeld kind.type kind.bounds) → VariablesFit f program served types
types_fit f program served types known sized small' are =
    let size : (j : ℕ) (type : Y.LeafType) (b : Bounds) (bs : List Bounds) → IsArrayAt types j type b bs → 16 + 4 * element_count (b ∷ bs) ≤ f.sizes.of j = λ j type b bs at.
    let kind : Kind = record { type = type; bounds = b ∷ bs } in
    let fits = subst (λ u. 16 + u * element_count (b ∷ bs) ≤ frame_size kind) (word_each type at.1) (data_fits kind (are j kind at.0)) in
    subst (λ n. 16 + 4 * element_count (b ∷ bs) ≤ n) (sym (sized j ∙ ap frame_size (kind_is types j at.0))) fits in
    record {
      bounds = λ j type b bs at. (are j (record { type = type; bounds = b ∷ bs }) at.0).1.0;
      size = size;
      few = λ j type b bs at below. let n = room_next f.sizes j f.count below in let s = size j type b bs at in omega (arith, n, s, small');
      text_arrays = λ j varying most b bs at among. array_fits f types j varying most b bs (sized j) small' at (are j (record { type = text_leaf varying most; bounds = b ∷ bs }) at) among;
      short = λ j varying most at. text_few varying most (are j (alone (text_leaf varying most)) at);
      room = λ j varying most at. subst (λ n. 16 + text_bytes varying most ≤ n) (sym (sized j ∙ ap frame_size (kind_is types j at))) (text_fits varying most (are j (alone (text_leaf varying most)) at));
      living = known;
    }

-- what a text variable holds stands there
pub text_stands : (types : Types) (n : Values) (m : List ℕ) (p j : ℕ) (varying : Bool) (most : ℕ) → IsTextAt types j varying most → There m p (contents (kind_at types) n j) → TextThere varying most p m (n.texts j)
text_stands types n m p j varying most at o =
    subst (There m p) (content_text varying most (n.numbers j) (n.texts j))
    (subst (λ u. There m p (content_for u (n.numbers j) (n.texts j) (n.arrays j) (n.text_arrays j))) (kind_is types j at) o)

abbrev main_texts : {served : ℕ → Option S.Living} (f : Frame) (first : List ℕ) (e : Environment) (block : Names) (types : Types) → ((j : ℕ) (kind : Kind) → slice_get types j ≡ Some kind → j < f.count) → ((j : ℕ) → j < f.count → data_place e block j ≡ number_place f.sizes j) → VariablesFit f e.program served types → TextsStand e block types (λ j. f.at) (f.at + 144 + room_of f.sizes f.count) (λ n. ground_of f first (contents (kind_at types) n))
main_texts f first e block types inside placed texts =
    let above = f.above_statics in
    let within = f.inside in
    let kind = kind_at types in
    record {
      room = record {
        high = λ j varying most at. omega (arith, above);
        short = texts.short;
        inside = λ j varying most at. let h = inside j (alone (text_leaf varying most)) at in let e' = placed j h in let r = room_next f.sizes j f.count h in let s = texts.room j varying most at in omega (arith, within, e', r, s);
      };
      under = λ j varying most at. let h = inside j (alone (text_leaf varying most)) at in let e' = placed j h in let r = room_next f.sizes j f.count h in let s = texts.room j varying most at in omega (arith, e', r, s);
      reads = λ n j varying most at t b m o.
          let h = inside j (alone (text_leaf varying most)) at in
          subst (λ u. TextThere varying most (f.at + u) m (n.texts j)) (sym (placed j h)) (text_stands types n m (f.at + number_place f.sizes j) j varying most at (o.variables j h));
      writes = λ n j varying most text at t b m len o.
          let h = inside j (alone (text_leaf varying most)) at in
          let T : ℕ → Type 0 = λ u. Stands f first (contents kind (with_text_at n j (text_kept_as varying most text))) t b (with_bytes (kept_bytes (text_kind_of varying most) (BasicText text)) (f.at + u) m) in
          subst T (sym (placed j h)) (text_writes f first kind n j varying most text h (kind_is types j at) (texts.short j varying most at) t b m len o);
    }

abbrev main_stack : (f : Frame) (first : List ℕ) (e : Environment) (block : Names) (types : Types) → ((j : ℕ) (kind : Kind) → slice_get types j ≡ Some kind → j < f.count) → ((j : ℕ) → j < f.count → data_place e block j ≡ number_place f.sizes j) → Stack e block types f.at (λ j. f.at) (λ n. ground_of f first (contents (kind_at types) n))
main_stack f first e block types inside placed =
    let above = f.above_statics in
    let whole = f.whole in
    record {
      frame = f.at;
      free = f.at + 144 + room_of f.sizes f.count;
      frame_is = λ n. refl;
      free_is = λ n. refl;
      aligned = let even = room_even f.sizes f.count in omega (arith, whole, even);
      high = omega (arith, above);
      above = omega arith;
      over = omega arith;
      keeps = λ n. main_keeps f first (contents (kind_at types) n);
      keeps_bytes = λ n. main_keeps_bytes f first (contents (kind_at types) n);
      under = λ j {type} below. let h = inside j (alone type) below in let e' = placed j h in let r = room_before f.sizes j f.count h in omega (arith, e', r);
    }

abbrev main_arrays : {served : ℕ → Option S.Living} (f : Frame) (first : List ℕ) (e : Environment) (block : Names) (types : Types) → ((j : ℕ) (kind : Kind) → slice_get types j ≡ Some kind → j < f.count) → HasTypes e block types → ((j : ℕ) → j < f.count → data_place e block j ≡ number_place f.sizes j) → VariablesFit f e.program served types → ArraysOn e block types (λ j. f.at) (f.at + 144 + room_of f.sizes f.count) (λ n. ground_of f first (contents (kind_at types) n))
main_arrays f first e block types inside declared placed fit j type b bs at =
    let kind : Kind = record { type = type; bounds = b ∷ bs } in
    let here = inside j kind at.0 in
    main_array f first e block j type (b ∷ bs) (contents (kind_at types))
    (array_in f (kind_at types) j type b bs here at.1 (kind_is types j at.0) (fit.size j type b bs at) (fit.few j type b bs at here))
    (declared j kind at.0) (fit.bounds j type b bs at) (placed j here)

abbrev main_text_arrays : {served : ℕ → Option S.Living} (f : Frame) (first : List ℕ) (e : Environment) (block : Names) (types : Types) → ((j : ℕ) (kind : Kind) → slice_get types j ≡ Some kind → j < f.count) → HasTypes e block types → ((j : ℕ) → j < f.count → data_place e block j ≡ number_place f.sizes j) → VariablesFit f e.program served types → TextArraysOn e block types (λ j. f.at) (f.at + 144 + room_of f.sizes f.count) (λ n. ground_of f first (contents (kind_at types) n))
main_text_arrays f first e block types inside declared placed fit j varying most b bs at =
    let kind : Kind = record { type = text_leaf varying most; bounds = b ∷ bs } in
    let here = inside j kind at in
    main_text_array f first e block (kind_at types) j varying most b bs here (kind_is types j at) (fit.text_arrays j varying most b bs at here) (declared j kind at) (placed j here)

-- each variable has the serial number behind its place
abbrev pub main_serials : (served : ℕ → Option S.Living) → Serials
main_serials served = record { of = λ j. suc j; owner = λ j. 1; first = served }

abbrev main_named : {served : ℕ → Option S.Living} (f : Frame) (first : List ℕ) (e : Environment) (block : Names) (types : Types) → ((j : ℕ) (kind : Kind) → slice_get types j ≡ Some kind → j < f.count) → ((j : ℕ) → j < f.count → data_place e block j ≡ number_place f.sizes j) → VariablesFit f e.program served types → ArraysNamed e block types (λ j. f.at) (λ n. ground_of f first (contents (kind_at types) n)) (main_serials served)
main_named f first e block types inside placed fit j type b bs at outermost =
    let kind : Kind = record { type = type; bounds = b ∷ bs } in
    let here = inside j kind at in
    let stands = placed j here in
    let same : f.at + name_place f.sizes j ≡ f.at + place_of_name e block j = omega (arith, stands) in
    record {
      living = record { serial = suc j; owner = 1; signature = number_for (table_of e.program) kind; at = f.at + number_place f.sizes j };
      lives = fit.living j kind at here;
      signature = refl;
      at = omega (arith, stands);
      aligned = f.whole;
      high = let above = f.above_statics in omega (arith, above);
      room = let within = f.inside in omega (arith, within);
      own = λ n t c m o. o.own;
      names = λ n t c m o. subst (λ p. NameThere m p (suc j)) same (o.names j here);
    }

-- the main procedure's block, where its variables stand one behind the other
pub contents_same : (types : Types) (n n' : Values) (j : ℕ) → SameValues types n n' → (kind : Kind) × (slice_get types j ≡ Some kind) → contents (kind_at types) n j ≡ contents (kind_at types) n' j
contents_same types n n' j same at =
    let o = same j at.0 at.1 in
    let k = kind_at types j in
    ap (λ z. content_for k z (n.texts j) (n.arrays j) (n.text_arrays j)) o.0
    ∙ ap (λ text. content_for k (n'.numbers j) text (n.arrays j) (n.text_arrays j)) o.1.0
    ∙ ap (λ a. content_for k (n'.numbers j) (n'.texts j) a (n.text_arrays j)) o.1.1.0
    ∙ ap (λ a. content_for k (n'.numbers j) (n'.texts j) (n'.arrays j) a) o.1.1.1

pub either_same : (q : Bool) (x : ℕ) → cond q x x ≡ x
either_same true x = refl
either_same false x = refl

pub own_reaches : (g : Ground) (level level' : ℕ) → level ≡ 0 → level' ≡ 0 → Reaches (level == level') level g g.frame
own_reaches g level level' e e' =
    subst (λ l. Reaches (l == level') l g g.frame) (sym e) (subst (λ m. Reaches (0 == m) 0 g g.frame) (sym e') refl)

unfoldable pub main_block : {served : ℕ → Option S.Living} (f : Frame) (first : List ℕ) (e : Environment) (block : Names) (types : Types) (known : Condition → ℕ → Y.Block → ℕ → Type 0) → block.program ≡ e.program → ((j : ℕ) → level_of block j ≡ 0) → e.level ≡ 0 → f.count ≡ length types → HasTypes e block types → ((j : ℕ) → j < f.count → data_place e block j ≡ number_place f.sizes j) → frame_end e.parts e.program e.block 0 ≡ 144 + room_of f.sizes f.count → VariablesFit f e.program served types → Block e block types
main_block {served} f first e block types known named outer outermost count declared placed sized texts =
    let inside : (j : ℕ) (kind : Kind) → slice_get types j ≡ Some kind → j < f.count = λ j kind h. let n = place_below types j kind h in omega (arith, n, count) in
    record {
      ground = λ n. ground_of f first (contents (kind_at types) n);
      words = f.words;
      taken = none_taken;
      labels = [];
      base = f.at;
      within = let i = f.inside in omega (arith, i);
      words_are = λ n. refl;
      same = λ n n' b h. refl;
      temps = λ n. main_temporaries f first (contents (kind_at types) n);
      alike = λ n n' same t b m o. stands_same f first (contents (kind_at types) n) (contents (kind_at types) n') t b m (λ j below. contents_same types n n' j same (place_taken types j (omega (arith, below, count)))) o;
      declared = λ j {type} below. declared j (alone type) below;
      reach = λ n. subst (λ l. Reaches (0 == l) 0 (ground_of f first (contents (kind_at types) n)) f.at) (sym outermost) refl;
      named = named;
      lower = λ j at. let o = outer j in omega (arith, o);
      bases = λ j. f.at;
      reaches = λ n j at. own_reaches (ground_of f first (contents (kind_at types) n)) (level_of block j) e.level (outer j) outermost;
      inside = λ j at. let i = f.inside in omega (arith, i);
      places = λ j {type} below. place_at f j (data_place e block j) (inside j (alone type) below) (placed j (inside j (alone type) below));
      reads = λ n j {type} below fits t b m o. ap (λ u. extended (load_kind type) (load (load_width (load_kind type)) m (f.at + u))) (placed j (inside j (alone type) below)) ∙ reads_by f first (kind_at types) n j type (inside j (alone type) below) (kind_is types j below) fits t b m o;
      writes = λ n j z {type} below old fits t b m len o.
          let T : ℕ → Type 0 = λ u. Stands f first (contents (kind_at types) (with_number_at n j z)) t b (store (store_width (store_kind type)) m (f.at + u) (word z)) in
          let here = inside j (alone type) below in
          subst T (sym (placed j here)) (main_writes f first (kind_at types) n j type z here (kind_is types j below) old fits t b m len o);
      held = refl;
      frames = lone f.at known;
      serials = main_serials served;
      bottom = record {
        holds = lowest_holds f;
        aligned = f.whole;
        room = let i = f.inside in omega (arith, i);
        own = λ b m o. o.1;
        kept = λ n t b m o. (o.resumes, o.own);
        rest = refl;
      };
      depths = [];
      shallow = λ q. refl;
      owners = λ j at. omega arith;
      first_owner = λ j at low. omega arith;
      stack = main_stack f first e block types inside placed;
      alone = λ q. refl;
      lead = [];
      leads = refl;
      ends = let i = f.inside in omega (arith, i);
      sized = λ owned. subst (λ l. f.at + frame_end e.parts e.program e.block l ≡ f.at + 144 + room_of f.sizes f.count) (sym outermost) (omega (arith, sized));
      own = λ n t b m o. o.own;
      levels = λ j. f.at;
      level_room = λ j below. absurd (omega (arith, outermost, below));
      outermost_level = λ q. refl;
      displays = λ n t b m j below o. absurd (omega (arith, outermost, below));
      leveled = λ j at. either_same (level_of block j == e.level) f.at;
      texts = main_texts f first e block types inside placed texts;
      arrays = main_arrays f first e block types inside declared placed texts;
      text_arrays = main_text_arrays f first e block types inside declared placed texts;
      array_names = main_named f first e block types inside placed texts;
      outer = [];
      enclosing = tt;
      seen = tt;
    }

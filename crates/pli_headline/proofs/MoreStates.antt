-- One more variable is made, in the meaning: it begins with what INITIAL gives it, or 0, blank or empty, and the others hold what they held.
use Rattle.std.proofs.Common.{◌≡◌, ℕ, suc, ◌+◌, ◌<◌, ◌≤◌, ◌⊎◌, inl, inr, List, [], ◌∷◌, ◌++◌, length, Option, Some, Bool, true, false, refl, sym, ap, ◌∙◌, subst, arith, add-one}
use Rattle.std.specs.Prelude.{ℤ, pos, cond, map, nat_le, slice_get, ◌==◌}
use Rattle.std.proofs.lemmas.Bool.{eq-eqb}
use Rattle.std.proofs.lemmas.Bool.Decides.{nat_tests}
use Rattle.pli_typing.specs.Signatures.{Bounds}
use Rattle.pli_language.specs.Tree as T
use Rattle.pli_language.specs.declared.condition.Condition.{Condition}
use Rattle.pli_typing.specs.TypedTree as Y
use Rattle.pli_meaning.specs.declared.outcome.End.TheVariants as E
use Rattle.pli_meaning.specs.declared.outcome.Limit.TheVariants as L
use Rattle.pli_meaning.specs.Contents.{Generation, Shape, fresh}
use Rattle.pli_meaning.specs.StorageState.{State, Activation, Binding, Living, newest_height, ancestor, binding_in, binding_of, generation_of, living_of, standing_for, most_automatic, automatic_in_use}
use Rattle.pli_meaning.specs.Control.{Flow, Normal, Meaning, flow_on, give, looked, choose, stored, finish, ◌>>=◌, ◌>>◌}
use Rattle.pli_meaning.specs.Raising.{Around}
use Rattle.pli_meaning.specs.Making as K
use Rattle.pli_meaning.specs.Making.{with_binding}
use Rattle.pli_serving.specs.Templates.{shape_at, template_of}
use Rattle.pli_serving.specs.ServiceState as S
use Rattle.pli_serving.specs.Making as G
use Rattle.pli_coding.specs.Environments.{Environment}
use Rattle.pli_coding.specs.SignatureTable.{table_of}
use Rattle.pli_headline.specs.ProvedSoFar.{Names, Spot, Kind, Types, alone, text_leaf, AreConstants, IsHeld, array_variable}
use Rattle.pli_headline.proofs.Activations.{Nested, levels_of, newest_level, newest_of_levels, newest_is, entered_length, same_length}
use Rattle.pli_headline.proofs.Scalars.{Values, Fits, begin_text, begin_fits, IsNumeric, scalar_limited, text_limit, value_as, place_below, begin_texts, own_array, own_scalar, scalar_element}
use Rattle.pli_headline.proofs.Variables.{level_of, own, scalar_binding}
use Rattle.pli_headline.proofs.VariablePlaces.{frame_size}
use Rattle.pli_headline.proofs.PlainNumbers.{number_for, Numbered, numbered_shape}
use Rattle.pli_headline.proofs.MainStates.{kind_binding, fresh_scalar, scalar_print, shape_print, begins_as, text_begins, text_short}
use Rattle.pli_headline.proofs.ArrayMeant.{HoldsArray, array_binding, shape_is}
use Rattle.pli_headline.proofs.TextStates.{KeepsText}
use Rattle.pli_headline.proofs.States.{Holds}
use Rattle.pli_headline.proofs.Storages.{Storage, Serials, Stored, owner_in}
use Rattle.pli_headline.proofs.DeclaredNames.{by_last, kind_around, chosen_before, chosen_here}
use Rattle.pli_headline.proofs.MoreNames.{more_names, more_serials, spot_of}
use Rattle.pli_headline.proofs.Asides.{Aside, StandAside, IsFresh, asides_by, asides_other, asides_fewer}
use Rattle.pli_headline.proofs.Statements.{AllHold, SameValues, Restricts, restricts_self}
use Rattle.pli_headline.proofs.Entered.{Frames, UnitsKnown}
use Rattle.pli_headline.proofs.TextArrayMeant.{HoldsTexts}
use Rattle.pli_headline.proofs.BegunValues.{AreBegun}
use Rattle.pli_headline.proofs.ArrayInitial.{all_given, array_begun, numbers_fit}
use Rattle.pli_headline.proofs.TextArrayInitial.{begun_short, texts_begun}

-- ---- in the meaning

abbrev pub fresh_kind : Kind → List T.InitialItem → Generation
fresh_kind k items = fresh_scalar (record { kind = k; initial = items })

abbrev pub more_state : State → (index : ℕ) → Kind → List T.InitialItem → State
more_state s index k items = K.with_variable index (fresh_kind k items) s

-- one within the limit, or the end of the run
abbrev pub made_or_ended : (s : State) (index c : ℕ) (k : Kind) (items : List T.InitialItem) → Bool → Flow (Unit {0})
made_or_ended s index c k items within = cond within (Normal tt (more_state s index k items)) (finish {R = Unit {0}} (E.Limit L.Automatic) c s)

pub step_meant : (around : Around) (s : State) (index c : ℕ) (k : Kind) (items : List T.InitialItem) (d : Y.DeclaredVariable) (ds : List Y.DeclaredVariable) → d ≡ array_variable k.type k.bounds items → IsHeld k.type k.bounds → K.variables_made around index (d ∷ ds) c s ≡ flow_on c (made_or_ended s index c k items (nat_le (automatic_in_use s.living + frame_size k) most_automatic)) (λ u. K.variables_made around (suc index) ds)
unfolding K.variables_made K.automatic_made K.extents K.variable_made give looked choose stored ◌>>=◌ ◌>>◌
step_meant around s index c k items d ds is held =
    let rest : ℕ → Unit {0} → Meaning (Unit {0}) = λ n u. K.variables_made around n ds in
    let end = finish {R = Unit {0}} (E.Limit L.Automatic) c s in
    ap (λ u. (K.automatic_made around index u u.class >> K.variables_made around (index + 1) ds) c s) is
    ∙ ap (λ (g : Shape). flow_on c (K.variable_made index (fresh g (pos 0) (items ∷ [])) c s) (rest (index + 1))) (shape_is k.type k.bounds items)
    ∙ ap (λ n. flow_on c (cond (nat_le (automatic_in_use s.living + n) most_automatic) (Normal tt (more_state s index k items)) end) (rest (index + 1))) (scalar_print (record { kind = k; initial = items }) held)
    ∙ ap (λ n. flow_on c (made_or_ended s index c k items (nat_le (automatic_in_use s.living + frame_size k) most_automatic)) (rest n)) (add-one index)

-- ---- activations

beside_level : (q : Bool) (b : Binding) (a : Activation) (o : Option Activation) (i : ℕ) → (b.variable == i) ≡ false → binding_in (cond q (Some (record a { bindings = b ∷ a.bindings })) o) i ≡ binding_in (cond q (Some a) o) i
beside_level true b a o i e = ap (λ t. cond t (Some b) (binding_of a.bindings i)) e
beside_level false b a o i e = refl

abbrev at_height : Activation → List Activation → (level i : ℕ) → Bool → Option Binding
at_height a as' level i q =
    binding_in (cond q (cond (a.level == level) (Some a) (ancestor as' a.parent level)) (ancestor as' a.height level)) i

-- what other variables stand for stays
seen_beside : (as' : List Activation) (b : Binding) (level i : ℕ) → ((newest_level as' == level) ≡ false) ⊎ ((b.variable == i) ≡ false) → binding_in (ancestor (with_binding b as') (newest_height (with_binding b as')) level) i ≡ binding_in (ancestor as' (newest_height as') level) i
seen_beside [] b level i h = refl
seen_beside (a ∷ as') b level i (inl other) =
    let a' : Activation = record a { bindings = b ∷ a.bindings } in
    let here = eq-eqb a.height a.height refl in
    ap (at_height a' as' level i) here
    ∙ ap (λ q. binding_in (cond q (Some a') (ancestor as' a.parent level)) i) other
    ∙ sym (ap (λ q. binding_in (cond q (Some a) (ancestor as' a.parent level)) i) other)
    ∙ sym (ap (at_height a as' level i) here)
seen_beside (a ∷ as') b level i (inr apart) =
    let a' : Activation = record a { bindings = b ∷ a.bindings } in
    let here = eq-eqb a.height a.height refl in
    ap (at_height a' as' level i) here ∙ beside_level (a.level == level) b a (ancestor as' a.parent level) i apart ∙ sym (ap (at_height a as' level i) here)

-- and the new one stands for its binding
seen_new : (as' : List Activation) (b : Binding) (level : ℕ) → 0 < length as' → newest_level as' ≡ level → binding_in (ancestor (with_binding b as') (newest_height (with_binding b as')) level) b.variable ≡ Some b
seen_new [] b level some e = absurd (omega (arith, some))
seen_new (a ∷ as') b level some e =
    let a' : Activation = record a { bindings = b ∷ a.bindings } in
    ap (at_height a' as' level b.variable) (eq-eqb a.height a.height refl)
    ∙ ap (λ q. binding_in (cond q (Some a') (ancestor as' a.parent level)) b.variable) (eq-eqb a.level level e)
    ∙ ap (λ t. cond t (Some b) (binding_of a.bindings b.variable)) (eq-eqb b.variable b.variable refl)

levels_same : (as' : List Activation) (b : Binding) → levels_of (with_binding b as') ≡ levels_of as'
levels_same [] b = refl
levels_same (a ∷ as') b = refl

pub nested_same : (as' : List Activation) (xs : List S.Activation) (b : Binding) → Nested as' xs → Nested (with_binding b as') xs
nested_same [] xs b h = h
nested_same (a ∷ as') [] b h = absurd h
nested_same (a ∷ as') (x ∷ xs) b h =
    (record { height = h.0.height; first = h.0.first; inside = h.0.inside; direct = h.0.direct; oncode = h.0.oncode; units = h.0.units }, h.1)

units_same : (known : Condition → ℕ → Y.Block → ℕ → Type 0) (as' : List Activation) (xs : List S.Activation) (b : Binding) → UnitsKnown known as' xs → UnitsKnown known (with_binding b as') xs
units_same known [] xs b h = h
units_same known (a ∷ as') [] b h = absurd h
units_same known (a ∷ as') (x ∷ xs) b h = h

-- ---- what a variable holds, under another name

pub holds_moved : {s s' : State} {block block' : Names} {j serial serial' : ℕ} {type : Y.LeafType} {z : ℤ} → block'.at j ≡ block.at j → serial' ≡ serial → standing_for s' (own block' j) ≡ standing_for s (own block j) → generation_of (living_of s'.living serial') ≡ generation_of (living_of s.living serial) → Holds s block j serial type z → Holds s' block' j serial' type z
holds_moved {block' = block'} {j} {serial} {serial'} {type} spot same stands lives h =
    record {
      values = h.values;
      stands = stands ∙ h.stands ∙ ap (λ (u : Spot). Some (scalar_binding type u.index serial)) (sym spot) ∙ ap (λ n. Some (scalar_binding type (block'.at j).index n)) (sym same);
      lives = lives ∙ h.lives;
      value = h.value;
      fits = h.fits;
    }

pub keeps_moved : {s s' : State} {block block' : Names} {j serial serial' : ℕ} {varying : Bool} {most : ℕ} {text : List ℕ} → block'.at j ≡ block.at j → serial' ≡ serial → standing_for s' (own block' j) ≡ standing_for s (own block j) → generation_of (living_of s'.living serial') ≡ generation_of (living_of s.living serial) → KeepsText s block j serial varying most text → KeepsText s' block' j serial' varying most text
keeps_moved {block' = block'} {j} {serial} {serial'} {varying} {most} spot same stands lives h =
    record {
      values = h.values;
      stands = stands ∙ h.stands ∙ ap (λ (u : Spot). Some (scalar_binding (text_leaf varying most) u.index serial)) (sym spot) ∙ ap (λ n. Some (scalar_binding (text_leaf varying most) (block'.at j).index n)) (sym same);
      lives = lives ∙ h.lives;
      value = h.value;
      short = h.short;
    }

pub array_moved : {s s' : State} {block block' : Names} {j serial serial' : ℕ} {type : Y.LeafType} {bs : List Bounds} {n : ℕ → ℤ} → block'.at j ≡ block.at j → serial' ≡ serial → standing_for s' (own block' j) ≡ standing_for s (own block j) → generation_of (living_of s'.living serial') ≡ generation_of (living_of s.living serial) → HoldsArray s block j serial type bs n → HoldsArray s' block' j serial' type bs n
array_moved {block' = block'} {j} {serial} {serial'} {type} {bs} spot same stands lives h =
    record {
      values = h.values;
      numeric = h.numeric;
      stands = stands ∙ h.stands ∙ ap (λ (u : Spot). Some (array_binding type bs u.index serial)) (sym spot) ∙ ap (λ n. Some (array_binding type bs (block'.at j).index n)) (sym same);
      lives = lives ∙ h.lives;
      value = h.value;
      fits = h.fits;
    }

pub texts_moved : {s s' : State} {block block' : Names} {j serial serial' : ℕ} {varying : Bool} {most : ℕ} {bs : List Bounds} {texts : ℕ → List ℕ} → block'.at j ≡ block.at j → serial' ≡ serial → standing_for s' (own block' j) ≡ standing_for s (own block j) → generation_of (living_of s'.living serial') ≡ generation_of (living_of s.living serial) → HoldsTexts s block j serial varying most bs texts → HoldsTexts s' block' j serial' varying most bs texts
texts_moved {block' = block'} {j} {serial} {serial'} {varying} {most} {bs} spot same stands lives h =
    record {
      values = h.values;
      stands = stands ∙ h.stands ∙ ap (λ (u : Spot). Some (array_binding (text_leaf varying most) bs u.index serial)) (sym spot) ∙ ap (λ n. Some (array_binding (text_leaf varying most) bs (block'.at j).index n)) (sym same);
      lives = lives ∙ h.lives;
      value = h.value;
      short = h.short;
    }

-- ---- with one more

abbrev pub more_storage : Storage → (signature at : ℕ) → Storage
more_storage xs signature at =
    record xs {
      living = record { serial = xs.serials + 1; owner = length xs.activations; signature = signature; at = at } ∷ xs.living;
      serials = xs.serials + 1;
    }

new_other : (l : Living) (ls : List Living) (n : ℕ) → (l.serial == n) ≡ false → living_of (l ∷ ls) n ≡ living_of ls n
new_other l ls n e = ap (λ q. cond q (Some l) (living_of ls n)) e

new_here : (l : Living) (ls : List Living) → living_of (l ∷ ls) l.serial ≡ Some l
new_here l ls = ap (λ q. cond q (Some l) (living_of ls l.serial)) (eq-eqb l.serial l.serial refl)

newer : (n m : ℕ) → n ≤ m → (m + 1 == n) ≡ false
newer n m h = grind (arith, nat_tests)

older_not : (n m : ℕ) → n ≤ m → (n == m + 1) ≡ false
older_not n m h = grind (arith, nat_tests)

level_apart : (l m n : ℕ) → n ≡ m → l < m → (n == l) ≡ false
level_apart l m n e h = grind (arith, nat_tests)

index_apart : (i index : ℕ) → i < index → (index == i) ≡ false
index_apart i index h = grind (arith, nat_tests)

-- a variable that is new in its block
abbrev pub IsNew : Environment → Names → Types → (index : ℕ) → Type 0
IsNew e block types index =
    (j : ℕ) (kind : Kind) → slice_get types j ≡ Some kind → (level_of block j < e.level) ⊎ ((block.at j).index < index)

-- the binding that others don't have
apart_by : (e : Environment) (block : Names) (index j newest : ℕ) → newest ≡ e.level → (level_of block j < e.level) ⊎ ((block.at j).index < index) → ((newest == level_of block j) ≡ false) ⊎ ((index == (block.at j).index) ≡ false)
apart_by e block index j newest same (inl low) = inl (level_apart (level_of block j) e.level newest same low)
apart_by e block index j newest same (inr low) = inr (index_apart (block.at j).index index low)

more_stored : {serials : Serials} {block : Names} {types : Types} (xs : Storage) (levels : List ℕ) (s : State) (e : Environment) (index : ℕ) (k : Kind) (items : List T.InitialItem) (at : ℕ) → Numbered (table_of block.program) k → newest_height s.activations ≡ suc (length levels) → length xs.activations ≡ suc (length levels) → Stored serials xs.signatures xs.living xs.serials (suc (length levels)) s.living s.serials block types → Stored (more_serials serials (length types) (s.serials + 1) (suc (length levels))) xs.signatures (more_storage xs (number_for (table_of block.program) k) at).living (xs.serials + 1) (suc (length levels)) (more_state s index k items).living (s.serials + 1) (more_names e block types index) (types ++ (k ∷ []))
more_stored {serials} {block} {types} xs levels s e index k items at numbered high long h =
    let count = length types in
    let table = table_of block.program in
    let serial = s.serials + 1 in
    let o = more_serials serials count serial (suc (length levels)) in
    let new : Living = record { serial = serial; owner = newest_height s.activations; generation = fresh_kind k items; placed = [] } in
    let of_before : (j : ℕ) → j < count → o.of j ≡ serials.of j = λ j below. chosen_before count j (serials.of j) serial below in
    let of_here : o.of count ≡ serial = chosen_here count (serials.of count) serial in
    record {
      owned = λ j at'.
          by_last types k (λ i kind. owner_in (living_of (new ∷ s.living) (o.of i)) ≡ Some (o.owner i))
          (λ i kind below at''.
          ap (λ n. owner_in (living_of (new ∷ s.living) n)) (of_before i below)
          ∙ ap owner_in (new_other new s.living (serials.of i) (newer (serials.of i) s.serials (h.older i at'')))
          ∙ h.owned i at''
          ∙ ap (λ n. Some n) (sym (chosen_before count i (serials.owner i) (suc (length levels)) below)))
          (ap (λ n. owner_in (living_of (new ∷ s.living) n)) of_here
          ∙ ap owner_in (new_here new s.living)
          ∙ ap (λ n. Some n) (high ∙ sym (chosen_here count (serials.owner count) (suc (length levels))))) j _ at';
      apart = λ i j at1 at2 other.
          by_last types k (λ i' kind. (i' == j) ≡ false → (o.of j == o.of i') ≡ false)
          (λ i' kind below at3 other'.
          by_last types k (λ j' kind'. (i' == j') ≡ false → (o.of j' == o.of i') ≡ false)
          (λ j' kind' below' at4 other''.
          ap (λ n. n == o.of i') (of_before j' below') ∙ ap (λ n. serials.of j' == n) (of_before i' below) ∙ h.apart i' j' at3 at4 other'')
          (λ other''. ap (λ n. n == o.of i') of_here ∙ ap (λ n. serial == n) (of_before i' below) ∙ newer (serials.of i') s.serials (h.older i' at3))
          j _ at2 other')
          (λ other'.
          by_last types k (λ j' kind'. (count == j') ≡ false → (o.of j' == o.of count) ≡ false)
          (λ j' kind' below' at4 other''.
          ap (λ n. n == o.of count) (of_before j' below') ∙ ap (λ n. serials.of j' == n) of_here ∙ older_not (serials.of j') s.serials (h.older j' at4))
          (λ other''. let no : true ≡ false = sym (eq-eqb count count refl) ∙ other'' in absurd (cc no))
          j _ at2 other')
          i _ at1 other;
      older = λ j at'.
          by_last types k (λ i kind. o.of i ≤ serial)
          (λ i kind below at''. let a = of_before i below in let old = h.older i at'' in omega (arith, a, old))
          (let a = of_here in omega (arith, a)) j _ at';
      alike = (
        record {
          owner = long ∙ sym high;
          low = omega (arith, high);
          size = ap (λ ts. G.footprint_of_shape (shape_at ts (number_for table k))) h.table
              ∙ ap G.footprint_of_shape (numbered_shape table k numbered)
              ∙ shape_print k numbered.held
              ∙ sym (scalar_print (record { kind = k; initial = items }) numbered.held);
        },
        h.alike,
      );
      counted = ap (λ n. n + 1) h.counted;
      table = h.table;
      first = λ n l is.
          let old = h.first n l is in
          let under = old.1.0 in
          let same = h.counted in
          (ap (λ q. cond q (Some (record { serial = xs.serials + 1; owner = length xs.activations; signature = number_for table k; at = at })) (S.living_of xs.living n)) (newer n xs.serials (omega (arith, under, same))) ∙ old.0, (omega (arith, under), old.1.1));
    }

asides_newer : {xss : List (List Aside)} {serials : Serials} {types : Types} {as' : List Activation} {living : List Living} {count : ℕ} (owner : ℕ) (l : Living) (k : Kind) → l.serial ≡ count + 1 → StandAside xss serials types as' living count → StandAside xss (more_serials serials (length types) (count + 1) owner) (types ++ (k ∷ [])) as' (l ∷ living) (count + 1)
asides_newer {serials = serials} {types} {as'} {living} {count} owner l k new all =
    let o = more_serials serials (length types) (count + 1) owner in
    asides_by (λ x bs few h.
    let other : (i : ℕ) → x.among i → (l.serial == x.serials.of i) ≡ false = λ i among. ap (λ n. n == x.serials.of i) new ∙ newer (x.serials.of i) count (h.older i among) in
    record {
      stands = λ i among. h.stands i among;
      lives = λ i among. ap generation_of (new_other l living (x.serials.of i) (other i among)) ∙ h.lives i among;
      owned = λ i among. ap owner_in (new_other l living (x.serials.of i) (other i among)) ∙ h.owned i among;
      low = λ i among. h.low i among;
      older = λ i among. let old = h.older i among in omega (arith, old);
      apart = λ i j among at.
          by_last types k (λ j' kind. (o.of j' == x.serials.of i) ≡ false)
          (λ j' kind below at'. ap (λ n. n == x.serials.of i) (chosen_before (length types) j' (serials.of j') (count + 1) below) ∙ h.apart i j' among at')
          (ap (λ n. n == x.serials.of i) (chosen_here (length types) (serials.of (length types)) (count + 1)) ∙ newer (x.serials.of i) count (h.older i among))
          j _ at;
    }) all

-- what is put aside stays, where the block that makes a variable has put nothing aside
asides_bound : {xss : List (List Aside)} {serials : Serials} {types : Types} {living : List Living} {count : ℕ} (b : Binding) (as' : List Activation) → IsFresh xss → StandAside xss serials types as' living count → StandAside xss serials types (with_binding b as') living count
asides_bound b [] fresh all = all
asides_bound b (a ∷ as') fresh all = asides_other a (record a { bindings = b ∷ a.bindings }) as' fresh all

pub more_all : {frames : Frames} {serials : Serials} {xs : Storage} {levels : List ℕ} {s : State} {block : Names} {types : Types} {n : Values} (e : Environment) (index : ℕ) (k : Kind) (items : List T.InitialItem) (at : ℕ) → IsHeld k.type k.bounds → AreConstants k.type items → Numbered (table_of block.program) k → IsNew e block types index → IsFresh frames.asides → Nested s.activations xs.activations → AreBegun n (length types) k.type items → AllHold frames serials xs (e.level ∷ levels) s block types n → AllHold frames (more_serials serials (length types) (s.serials + 1) (suc (length levels))) (more_storage xs (number_for (table_of block.program) k) at) (e.level ∷ levels) (more_state s index k items) (more_names e block types index) (types ++ (k ∷ [])) n
more_all {frames = frames} {serials = serials} {xs} {levels} {s} {block} {types} {n} e index k items at held begins numbered new fresh nested begun all =
    let count = length types in
    let serial = s.serials + 1 in
    let s' = more_state s index k items in
    let names = more_names e block types index in
    let b = kind_binding k index serial in
    let o = more_serials serials count serial (suc (length levels)) in
    let long = entered_length s.activations (e.level ∷ levels) all.entered in
    let newest = newest_of_levels s.activations e.level levels all.entered in
    let high = newest_is s.activations xs.activations (length levels) nested long in
    let l : Living = record { serial = serial; owner = newest_height s.activations; generation = fresh_kind k items; placed = [] } in
    let spot : (j : ℕ) → j < count → names.at j ≡ block.at j = λ j below. chosen_before count j (block.at j) (spot_of e index) below in
    let same : (j : ℕ) → j < count → o.of j ≡ serials.of j = λ j below. chosen_before count j (serials.of j) serial below in
    let stands : (j : ℕ) (kind : Kind) → j < count → slice_get types j ≡ Some kind → standing_for s' (own names j) ≡ standing_for s (own block j) = λ j kind below at'.
    ap (λ (u : Spot). binding_in (ancestor s'.activations (newest_height s'.activations) u.level) u.index) (spot j below)
    ∙ seen_beside s.activations b (level_of block j) (block.at j).index (apart_by e block index j (newest_level s.activations) newest (new j kind at')) in
    let lives : (j : ℕ) (kind : Kind) → j < count → slice_get types j ≡ Some kind → generation_of (living_of s'.living (o.of j)) ≡ generation_of (living_of s.living (serials.of j)) = λ j kind below at'.
    ap (λ m. generation_of (living_of s'.living m)) (same j below) ∙ ap generation_of (new_other l s.living (serials.of j) (newer (serials.of j) s.serials (all.stored.older j at'))) in
    let new_stands : (q : Kind) → k ≡ q → standing_for s' (own names count) ≡ Some (kind_binding q (names.at count).index (o.of count)) = λ q e'.
    ap (λ (u : Spot). binding_in (ancestor s'.activations (newest_height s'.activations) u.level) u.index) (chosen_here count (block.at count) (spot_of e index))
    ∙ seen_new s.activations b e.level (omega (arith, long)) newest
    ∙ ap (λ u. Some (kind_binding u index serial)) e'
    ∙ ap (λ (u : Spot). Some (kind_binding q u.index serial)) (sym (chosen_here count (block.at count) (spot_of e index)))
    ∙ ap (λ m. Some (kind_binding q (names.at count).index m)) (sym (chosen_here count (serials.of count) serial)) in
    let new_lives : (q : Kind) → k ≡ q → generation_of (living_of s'.living (o.of count)) ≡ Some (fresh_kind q items) = λ q e'.
    ap (λ m. generation_of (living_of s'.living m)) (chosen_here count (serials.of count) serial)
    ∙ ap generation_of (new_here l s.living)
    ∙ ap (λ u. Some (fresh_kind u items)) e' in
    record {
      numbers = λ j t numeric.
          by_last types k (λ i kind. (u : Y.LeafType) → kind ≡ alone u → IsNumeric u → Holds s' names i (o.of i) u (n.numbers i))
          (λ i kind below at' u e' numeric'.
          let here = at' ∙ ap (λ q. Some q) e' in
          holds_moved (spot i below) (same i below) (stands i kind below at') (lives i kind below at') (all.numbers i (u, here) numeric'))
          (λ u e' numeric'.
          let type = ap (λ (q : Kind). q.type) e' in
          let limited = scalar_limited u (own_scalar e' held) numeric' in
          let begins' = subst (λ q. AreConstants q items) type begins in
          record {
            values = (fresh_kind (alone u) items).values;
            stands = new_stands _ e';
            lives = new_lives _ e';
            value = begins_as u items numeric' begins' ∙ ap (value_as u) (sym begun.number);
            fits = subst (Fits u) (sym begun.number) (begin_fits u items limited begins');
          }) j (alone t.0) t.1 t.0 refl numeric;
      texts = λ j varying most at'.
          by_last types k (λ i kind. kind ≡ alone (text_leaf varying most) → KeepsText s' names i (o.of i) varying most (n.texts i))
          (λ i kind below at'' e'. keeps_moved (spot i below) (same i below) (stands i kind below at'') (lives i kind below at'') (all.texts i varying most (at'' ∙ ap (λ q. Some q) e')))
          (λ e'.
          let u = text_leaf varying most in
          let type = ap (λ (q : Kind). q.type) e' in
          let begins' = subst (λ q. AreConstants q items) type begins in
          let same' : begin_text u items ≡ n.texts count = sym (begun.text ∙ ap (λ q. begin_text q items) type) in
          subst (KeepsText s' names count (o.of count) varying most) same' (record {
            values = (fresh_kind (alone u) items).values;
            stands = new_stands _ e';
            lives = new_lives _ e';
            value = text_begins varying most items begins';
            short = text_short varying most items (text_limit varying most (own_scalar e' held));
          })) j (alone (text_leaf varying most)) at' refl;
      arrays = λ j type c cs at'.
          by_last types k (λ i kind. kind ≡ record { type = type; bounds = c ∷ cs } → HoldsArray s' names i (o.of i) type (c ∷ cs) (n.arrays i))
          (λ i kind below at'' e'. array_moved (spot i below) (same i below) (stands i kind below at'') (lives i kind below at'') (all.arrays i type c cs (at'' ∙ ap (λ q. Some q) e', at'.1)))
          (λ e'.
          let constants = all_given type items (scalar_element type (own_array e' held).0 at'.1) (subst (λ (q : Kind). AreConstants q.type items) e' begins) in
          let element = scalar_element type (own_array e' held).0 at'.1 in
          subst (HoldsArray s' names count (o.of count) type (c ∷ cs)) (sym begun.array) (record {
            values = (fresh_kind (record { type = type; bounds = c ∷ cs }) items).values;
            numeric = at'.1;
            stands = new_stands _ e';
            lives = new_lives _ e';
            value = λ js inside. array_begun type (c ∷ cs) items js element constants.0;
            fits = λ p inside. numbers_fit type items p element constants.0;
          })) j (record { type = type; bounds = c ∷ cs }) at'.0 refl;
      text_arrays = λ j varying most c cs at'.
          by_last types k (λ i kind. kind ≡ record { type = text_leaf varying most; bounds = c ∷ cs } → HoldsTexts s' names i (o.of i) varying most (c ∷ cs) (n.text_arrays i))
          (λ i kind below at'' e'. texts_moved (spot i below) (same i below) (stands i kind below at'') (lives i kind below at'') (all.text_arrays i varying most c cs (at'' ∙ ap (λ q. Some q) e')))
          (λ e'.
          let type = ap (λ (q : Kind). q.type) e' in
          let same' : begin_texts (text_leaf varying most) items ≡ n.text_arrays count = sym (begun.texts ∙ ap (λ q. begin_texts q items) type) in
          subst (HoldsTexts s' names count (o.of count) varying most (c ∷ cs)) same' (record {
            values = (fresh_kind (record { type = text_leaf varying most; bounds = c ∷ cs }) items).values;
            stands = new_stands _ e';
            lives = new_lives _ e';
            value = λ js inside. texts_begun varying most (c ∷ cs) items js (subst (λ q. AreConstants q items) type begins);
            short = λ p inside. begun_short varying most items p (text_limit varying most (own_array e' held).0);
          })) j (record { type = text_leaf varying most; bounds = c ∷ cs }) at' refl;
      entered = levels_same s.activations b ∙ all.entered;
      framed = all.framed;
      kinds = all.kinds;
      units = units_same frames.known s.activations xs.activations b all.units;
      aside = asides_newer (suc (length levels)) l k refl (asides_bound b s.activations fresh all.aside);
      stored = more_stored xs levels s e index k items at numbered high (same_length s.activations xs.activations nested ∙ long) all.stored;
    }

-- ---- without it

-- the first of others
pub restricts_all : {frames : Frames} {serials serials' : Serials} {xs : Storage} {levels : List ℕ} {s : State} {block block' : Names} {types types' : Types} {n : Values} → Restricts serials block types serials' block' types' → AllHold frames serials xs levels s block types n → AllHold frames serials' xs levels s block' types' n
restricts_all {frames = frames} {serials} {serials'} {xs} {levels} {s} {block} {block'} {types} {types'} r all =
    let stands : (j : ℕ) (kind : Kind) → slice_get types' j ≡ Some kind → standing_for s (own block' j) ≡ standing_for s (own block j) = λ j kind at.
    ap (λ (u : Spot). binding_in (ancestor s.activations (newest_height s.activations) u.level) u.index) (r.spots j at) in
    let lives : (j : ℕ) (kind : Kind) → slice_get types' j ≡ Some kind → generation_of (living_of s.living (serials'.of j)) ≡ generation_of (living_of s.living (serials.of j)) = λ j kind at. ap (λ m. generation_of (living_of s.living m)) (r.of j at) in
    record {
      numbers = λ j t numeric. holds_moved (r.spots j t.1) (r.of j t.1) (stands j _ t.1) (lives j _ t.1) (all.numbers j (t.0, r.among j t.1) numeric);
      texts = λ j varying most at. keeps_moved (r.spots j at) (r.of j at) (stands j _ at) (lives j _ at) (all.texts j varying most (r.among j at));
      arrays = λ j type c cs at. array_moved (r.spots j at.0) (r.of j at.0) (stands j _ at.0) (lives j _ at.0) (all.arrays j type c cs (r.among j at.0, at.1));
      text_arrays = λ j varying most c cs at. texts_moved (r.spots j at) (r.of j at) (stands j _ at) (lives j _ at) (all.text_arrays j varying most c cs (r.among j at));
      entered = all.entered;
      framed = all.framed;
      kinds = all.kinds;
      units = all.units;
      aside = asides_fewer (λ j kind at. (r.among j at, r.of j at)) all.aside;
      stored = record {
        owned = λ j at. ap (λ m. owner_in (living_of s.living m)) (r.of j at) ∙ all.stored.owned j (r.among j at) ∙ ap (λ m. Some m) (sym (r.owner j at));
        apart = λ i j at at' other. ap (λ m. m == serials'.of i) (r.of j at') ∙ ap (λ m. serials.of j == m) (r.of i at) ∙ all.stored.apart i j (r.among i at) (r.among j at') other;
        older = λ j at. let a = r.of j at in let old = all.stored.older j (r.among j at) in omega (arith, a, old);
        alike = all.stored.alike;
        counted = all.stored.counted;
        first = λ m l is. all.stored.first m l (ap (λ (u : ℕ → Option S.Living). u m) (sym r.first) ∙ is);
        table = all.stored.table ∙ ap (λ p. map template_of (table_of p)) (sym r.program);
      };
    }

-- of those with one more, too
pub more_restricts : {serials serials' : Serials} {block block' : Names} {types types' : Types} (e : Environment) (index : ℕ) (k : Kind) (serial owner : ℕ) → Restricts serials block types serials' block' types' → Restricts (more_serials serials (length types) serial owner) (more_names e block types index) (types ++ (k ∷ [])) serials' block' types'
more_restricts {serials} {block = block} {types = types} e index k serial owner r =
    let count = length types in
    record {
      program = r.program;
      first = r.first;
      among = λ j at. kind_around types (k ∷ []) j (r.among j at);
      spots = λ j at. r.spots j at ∙ sym (chosen_before count j (block.at j) (spot_of e index) (place_below types j _ (r.among j at)));
      of = λ j at. r.of j at ∙ sym (chosen_before count j (serials.of j) serial (place_below types j _ (r.among j at)));
      owner = λ j at. r.owner j at ∙ sym (chosen_before count j (serials.owner j) owner (place_below types j _ (r.among j at)));
    }

pub fewer_all : {frames : Frames} {serials : Serials} {xs : Storage} {levels : List ℕ} {s : State} {block : Names} {types : Types} {n : Values} (e : Environment) (index : ℕ) (k : Kind) (serial owner : ℕ) → AllHold frames (more_serials serials (length types) serial owner) xs levels s (more_names e block types index) (types ++ (k ∷ [])) n → AllHold frames serials xs levels s block types n
fewer_all {serials = serials} {block = block} {types = types} e index k serial owner all =
    restricts_all (more_restricts e index k serial owner (restricts_self serials block types)) all

-- ---- other values

-- what isn't held may be said otherwise
pub all_same : {frames : Frames} {serials : Serials} {xs : Storage} {levels : List ℕ} {s : State} {block : Names} {types : Types} {n : Values} (n' : Values) → SameValues types n n' → AllHold frames serials xs levels s block types n → AllHold frames serials xs levels s block types n'
all_same {serials = serials} {s = s} {block = block} n' same all =
    record {
      numbers = λ j t numeric. subst (λ z. Holds s block j (serials.of j) t.0 z) (same j _ t.1).0 (all.numbers j t numeric);
      texts = λ j varying most at. subst (λ z. KeepsText s block j (serials.of j) varying most z) (same j _ at).1.0 (all.texts j varying most at);
      arrays = λ j type b bs at. subst (λ z. HoldsArray s block j (serials.of j) type (b ∷ bs) z) (same j _ at.0).1.1.0 (all.arrays j type b bs at);
      text_arrays = λ j varying most b bs at. subst (λ z. HoldsTexts s block j (serials.of j) varying most (b ∷ bs) z) (same j _ at).1.1.1 (all.text_arrays j varying most b bs at);
      entered = all.entered;
      framed = all.framed;
      kinds = all.kinds;
      units = all.units;
      aside = all.aside;
      stored = all.stored;
    }

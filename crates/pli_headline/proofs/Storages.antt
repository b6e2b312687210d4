-- What lives, in the meaning and among the services, side by side; and the serial numbers of variables, with the heights of those that own them.
use Rattle.std.proofs.Common.{◌≡◌, ℕ, suc, ◌+◌, ◌≤◌, List, [], ◌∷◌, Option, None, Some, Bool, true, false, refl, sym, ap, ◌∙◌, subst, arith}
use Rattle.std.specs.Prelude.{cond, ◌==◌, nat_le, filter, map, slice_get}
use Rattle.std.proofs.lemmas.Bool.{eqb-true, le-leb}
use Rattle.std.proofs.lemmas.Bool.Decides.{nat_tests}
use Rattle.pli_meaning.specs.Contents.{Generation, footprint_of}
use Rattle.pli_meaning.specs.StorageState.{Living, living_of, living_changed, generation_of, generation_changed, automatic_in_use, without_owner}
use Rattle.pli_types.specs.Templates.{Template}
use Rattle.pli_serving.specs.Templates.{template_of, shape_at}
use Rattle.pli_serving.specs.ServiceState as S
use Rattle.pli_serving.specs.ServiceState.{Services}
use Rattle.pli_serving.specs.Making as G
use Rattle.pli_coding.specs.SignatureTable.{table_of}
use Rattle.pli_headline.specs.ProvedSoFar.{Names, Types, Kind}

-- what the services keep of blocks and variables
pub record Storage : Type 0 where
  pub activations : List S.Activation
  pub signatures : List Template
  pub living : List S.Living
  pub serials : ℕ

abbrev pub storage : Services → Storage
storage v = record { activations = v.activations; signatures = v.signatures; living = v.living; serials = v.serials }

-- the serial number of each variable, the height of the activation that owns it, and what the services keep of the oldest one's variables
pub record Serials : Type 0 where
  pub of : ℕ → ℕ
  pub owner : ℕ → ℕ
  pub first : ℕ → Option S.Living

-- ---- side by side

-- with the same owner, which is no higher, and as many bytes
pub record IsAlike (templates : List Template) (most : ℕ) (l : Living) (m : S.Living) : Type 0 where
  pub owner : m.owner ≡ l.owner
  pub low : l.owner ≤ most
  pub size : G.footprint_of_shape (shape_at templates m.signature) ≡ footprint_of l.generation

abbrev pub Alike : List Template → (most : ℕ) → List Living → List S.Living → Type 0
Alike templates most [] [] = Unit {0}
Alike templates most (l ∷ ls) (m ∷ ms) = IsAlike templates most l m × Alike templates most ls ms
Alike templates most _ _ = ⊥

in_use_by : (q : Bool) (x y n m : ℕ) → x ≡ y → n ≡ m → cond q n (x + n) ≡ cond q m (y + m)
in_use_by true x y n m e f = f
in_use_by false x y n m e f = omega (arith, e, f)

-- as much is in use
pub in_use_same : (templates : List Template) (most : ℕ) (ls : List Living) (ms : List S.Living) → Alike templates most ls ms → G.automatic_in_use templates ms ≡ automatic_in_use ls
in_use_same templates most [] [] h = refl
in_use_same templates most (l ∷ ls) (m ∷ ms) h =
    ap (λ q. cond (q == 0) (G.automatic_in_use templates ms) (G.footprint_of_shape (shape_at templates m.signature) + G.automatic_in_use templates ms)) h.0.owner
    ∙ in_use_by (l.owner == 0) (G.footprint_of_shape (shape_at templates m.signature)) (footprint_of l.generation) (G.automatic_in_use templates ms) (automatic_in_use ls) h.0.size (in_use_same templates most ls ms h.1)
in_use_same templates most [] (m ∷ ms) h = absurd h
in_use_same templates most (l ∷ ls) [] h = absurd h

-- ---- a generation is changed

alike_by : (q : Bool) (templates : List Template) (most : ℕ) (change : Generation → Generation) → ((g : Generation) → footprint_of (change g) ≡ footprint_of g) → (l : Living) (m : S.Living) (ls ls' : List Living) (ms : List S.Living) → IsAlike templates most l m → Alike templates most ls ms → Alike templates most ls' ms → Alike templates most (cond q (generation_changed change l ∷ ls) (l ∷ ls')) (m ∷ ms)
alike_by true templates most change keeps l m ls ls' ms h rest more =
    (record { owner = h.owner; low = h.low; size = h.size ∙ sym (keeps l.generation) }, rest)
alike_by false templates most change keeps l m ls ls' ms h rest more = (h, more)

alike_changed : (templates : List Template) (most serial : ℕ) (change : Generation → Generation) → ((g : Generation) → footprint_of (change g) ≡ footprint_of g) → (ls : List Living) (ms : List S.Living) → Alike templates most ls ms → Alike templates most (living_changed serial (generation_changed change) ls) ms
alike_changed templates most serial change keeps [] ms h = h
alike_changed templates most serial change keeps (l ∷ ls) [] h = absurd h
alike_changed templates most serial change keeps (l ∷ ls) (m ∷ ms) h =
    alike_by (l.serial == serial) templates most change keeps l m ls (living_changed serial (generation_changed change) ls) ms h.0 h.1 (alike_changed templates most serial change keeps ls ms h.1)

-- ---- owners

abbrev pub owner_in : Option Living → Option ℕ
owner_in None = None
owner_in (Some l) = Some l.owner

owner_by : (q r : Bool) (change : Generation → Generation) (l : Living) (ls ls' : List Living) (n : ℕ) → owner_in (living_of ls' n) ≡ owner_in (living_of ls n) → (l.serial == n) ≡ r → owner_in (living_of (cond q (generation_changed change l ∷ ls) (l ∷ ls')) n) ≡ owner_in (living_of (l ∷ ls) n)
owner_by true true change l ls ls' n h e =
    ap (λ t. owner_in (cond t (Some (generation_changed change l)) (living_of ls n))) e ∙ sym (ap (λ t. owner_in (cond t (Some l) (living_of ls n))) e)
owner_by true false change l ls ls' n h e =
    ap (λ t. owner_in (cond t (Some (generation_changed change l)) (living_of ls n))) e ∙ sym (ap (λ t. owner_in (cond t (Some l) (living_of ls n))) e)
owner_by false true change l ls ls' n h e =
    ap (λ t. owner_in (cond t (Some l) (living_of ls' n))) e ∙ sym (ap (λ t. owner_in (cond t (Some l) (living_of ls n))) e)
owner_by false false change l ls ls' n h e =
    ap (λ t. owner_in (cond t (Some l) (living_of ls' n))) e ∙ h ∙ sym (ap (λ t. owner_in (cond t (Some l) (living_of ls n))) e)

pub owner_changed : (serial : ℕ) (change : Generation → Generation) (ls : List Living) (n : ℕ) → owner_in (living_of (living_changed serial (generation_changed change) ls) n) ≡ owner_in (living_of ls n)
owner_changed serial change [] n = refl
owner_changed serial change (l ∷ ls) n =
    owner_by (l.serial == serial) (l.serial == n) change l ls (living_changed serial (generation_changed change) ls) n (owner_changed serial change ls n) refl

-- ---- what stands with the variables of a block

pub record Stored (o : Serials) (templates : List Template) (kept : List S.Living) (made most : ℕ) (living : List Living) (serials : ℕ) (block : Names) (types : Types) : Type 0 where
  pub owned : (j : ℕ) {kind : Kind} → slice_get types j ≡ Some kind → owner_in (living_of living (o.of j)) ≡ Some (o.owner j)
  pub apart : (i j : ℕ) {kind other : Kind} → slice_get types i ≡ Some kind → slice_get types j ≡ Some other → (i == j) ≡ false → (o.of j == o.of i) ≡ false
  pub older : (j : ℕ) {kind : Kind} → slice_get types j ≡ Some kind → o.of j ≤ serials
  pub alike : Alike templates most living kept
  pub counted : made ≡ serials
  pub table : templates ≡ map template_of (table_of block.program)
  pub first : (n : ℕ) (l : S.Living) → o.first n ≡ Some l → (S.living_of kept n ≡ Some l) × ((n ≤ serials) × (l.owner ≡ 1))

pub stored_changed : {o : Serials} {templates : List Template} {kept : List S.Living} {made most : ℕ} {living : List Living} {serials : ℕ} {block : Names} {types : Types} (serial : ℕ) (change : Generation → Generation) → ((g : Generation) → footprint_of (change g) ≡ footprint_of g) → Stored o templates kept made most living serials block types → Stored o templates kept made most (living_changed serial (generation_changed change) living) serials block types
stored_changed {o} {templates} {kept} {made} {most} {living} serial change keeps h =
    record {
      owned = λ j at. owner_changed serial change living (o.of j) ∙ h.owned j at;
      apart = λ i j at at' e. h.apart i j at at' e;
      older = λ j at. h.older j at;
      alike = alike_changed templates most serial change keeps living kept h.alike;
      counted = h.counted;
      table = h.table;
      first = λ n l is. h.first n l is;
    }

-- ---- a block is entered and left

alike_higher : (templates : List Template) (most : ℕ) (ls : List Living) (ms : List S.Living) → Alike templates most ls ms → Alike templates (suc most) ls ms
alike_higher templates most [] [] h = tt
alike_higher templates most (l ∷ ls) (m ∷ ms) h =
    (record { owner = h.0.owner; low = (let low = h.0.low in omega (arith, low)); size = h.0.size }, alike_higher templates most ls ms h.1)
alike_higher templates most [] (m ∷ ms) h = absurd h
alike_higher templates most (l ∷ ls) [] h = absurd h

pub stored_higher : {o : Serials} {templates : List Template} {kept : List S.Living} {made most : ℕ} {living : List Living} {serials : ℕ} {block : Names} {types : Types} → Stored o templates kept made most living serials block types → Stored o templates kept made (suc most) living serials block types
stored_higher {templates = templates} {kept} {made} {most} {living} h =
    record {
      owned = λ j at. h.owned j at;
      apart = λ i j at at' e. h.apart i j at at' e;
      older = λ j at. h.older j at;
      alike = alike_higher templates most living kept h.alike;
      counted = h.counted;
      table = h.table;
      first = λ n l is. h.first n l is;
    }

left_alike : (q : Bool) (templates : List Template) (most : ℕ) (l : Living) (m : S.Living) (ls : List Living) (ms : List S.Living) → (l.owner == suc most) ≡ q → IsAlike templates (suc most) l m → Alike templates most ls ms → Alike templates most (cond q ls (l ∷ ls)) (cond (nat_le m.owner most) (m ∷ ms) ms)
left_alike true templates most l m ls ms e h rest =
    let same = h.owner in
    let high : l.owner ≡ suc most = eqb-true l.owner (suc most) e in
    let t : nat_le m.owner most ≡ false = grind (arith, nat_tests) in
    subst (λ u. Alike templates most ls (cond u (m ∷ ms) ms)) (sym t) rest
left_alike false templates most l m ls ms e h rest =
    let same = h.owner in
    let low = h.low in
    let less : l.owner ≤ most = grind (arith, nat_tests) in
    let t : nat_le m.owner most ≡ true = grind (arith, nat_tests) in
    subst (λ u. Alike templates most (l ∷ ls) (cond u (m ∷ ms) ms)) (sym t) (record { owner = h.owner; low = less; size = h.size }, rest)

alike_left : (templates : List Template) (most : ℕ) (ls : List Living) (ms : List S.Living) → Alike templates (suc most) ls ms → Alike templates most (without_owner (suc most) ls) (filter (λ m. nat_le m.owner most) ms)
alike_left templates most [] [] h = tt
alike_left templates most (l ∷ ls) (m ∷ ms) h =
    left_alike (l.owner == suc most) templates most l m (without_owner (suc most) ls) (filter (λ u. nat_le u.owner most) ms) refl h.0 (alike_left templates most ls ms h.1)
alike_left templates most [] (m ∷ ms) h = absurd h
alike_left templates most (l ∷ ls) [] h = absurd h

-- a generation of another owner stays
stays_by : {A : Type 0} (read : Option Living → Option A) (q r : Bool) (height owner n : ℕ) (l : Living) (ls : List Living) → (l.owner == height) ≡ q → (l.serial == n) ≡ r → owner_in (living_of (l ∷ ls) n) ≡ Some owner → (owner == height) ≡ false → (owner_in (living_of ls n) ≡ Some owner → read (living_of (without_owner height ls) n) ≡ read (living_of ls n)) → read (living_of (cond q (without_owner height ls) (l ∷ without_owner height ls)) n) ≡ read (living_of (l ∷ ls) n)
stays_by read true true height owner n l ls e f h other ih =
    let mine : Some l.owner ≡ Some owner = sym (ap (λ t. owner_in (cond t (Some l) (living_of ls n))) f) ∙ h in
    let same : l.owner ≡ owner = cc mine in
    let no : true ≡ false = sym e ∙ ap (λ u. u == height) same ∙ other in
    absurd (cc no)
stays_by read true false height owner n l ls e f h other ih =
    let behind : owner_in (living_of ls n) ≡ Some owner = sym (ap (λ t. owner_in (cond t (Some l) (living_of ls n))) f) ∙ h in
    ih behind ∙ sym (ap (λ t. read (cond t (Some l) (living_of ls n))) f)
stays_by read false true height owner n l ls e f h other ih =
    ap (λ t. read (cond t (Some l) (living_of (without_owner height ls) n))) f ∙ sym (ap (λ t. read (cond t (Some l) (living_of ls n))) f)
stays_by read false false height owner n l ls e f h other ih =
    let behind : owner_in (living_of ls n) ≡ Some owner = sym (ap (λ t. owner_in (cond t (Some l) (living_of ls n))) f) ∙ h in
    ap (λ t. read (cond t (Some l) (living_of (without_owner height ls) n))) f ∙ ih behind ∙ sym (ap (λ t. read (cond t (Some l) (living_of ls n))) f)

pub stays_left : {A : Type 0} (read : Option Living → Option A) (height owner n : ℕ) (ls : List Living) → owner_in (living_of ls n) ≡ Some owner → (owner == height) ≡ false → read (living_of (without_owner height ls) n) ≡ read (living_of ls n)
stays_left read height owner n [] h other = refl
stays_left read height owner n (l ∷ ls) h other =
    stays_by read (l.owner == height) (l.serial == n) height owner n l ls refl refl h other (λ g. stays_left read height owner n ls g other)

pub generation_left : (height owner n : ℕ) (ls : List Living) → owner_in (living_of ls n) ≡ Some owner → (owner == height) ≡ false → generation_of (living_of (without_owner height ls) n) ≡ generation_of (living_of ls n)
generation_left height owner n ls h other = stays_left generation_of height owner n ls h other

pub below_high : (owner most : ℕ) → owner ≤ most → (owner == suc most) ≡ false
below_high owner most h = grind (arith, nat_tests)

-- the services still know what is of no higher owner
found_by : (q r : Bool) (most n : ℕ) (l m : S.Living) (ms : List S.Living) → (m.serial == n) ≡ q → nat_le m.owner most ≡ r → cond q (Some m) (S.living_of ms n) ≡ Some l → nat_le l.owner most ≡ true → (S.living_of ms n ≡ Some l → S.living_of (filter (λ u. nat_le u.owner most) ms) n ≡ Some l) → S.living_of (cond r (m ∷ filter (λ u. nat_le u.owner most) ms) (filter (λ u. nat_le u.owner most) ms)) n ≡ Some l
found_by true true most n l m ms e f h low later = ap (λ t. cond t (Some m) (S.living_of (filter (λ u. nat_le u.owner most) ms) n)) e ∙ h
found_by true false most n l m ms e f h low later =
    let same : m ≡ l = cc h in
    let no : false ≡ true = sym f ∙ ap (λ (u : S.Living). nat_le u.owner most) same ∙ low in
    absurd (cc no)
found_by false true most n l m ms e f h low later = ap (λ t. cond t (Some m) (S.living_of (filter (λ u. nat_le u.owner most) ms) n)) e ∙ later h
found_by false false most n l m ms e f h low later = later h

found_left : (ms : List S.Living) (most n : ℕ) (l : S.Living) → S.living_of ms n ≡ Some l → nat_le l.owner most ≡ true → S.living_of (filter (λ u. nat_le u.owner most) ms) n ≡ Some l
found_left [] most n l h low = absurd (cc h)
found_left (m ∷ ms) most n l h low = found_by (m.serial == n) (nat_le m.owner most) most n l m ms refl refl h low (λ h'. found_left ms most n l h' low)

-- the newest activation ends, which owns none of these variables
pub stored_left : {o : Serials} {templates : List Template} {kept : List S.Living} {made most : ℕ} {living : List Living} {serials : ℕ} {block : Names} {types : Types} → 1 ≤ most → ((j : ℕ) (kind : Kind) → slice_get types j ≡ Some kind → o.owner j ≤ most) → Stored o templates kept made (suc most) living serials block types → Stored o templates (filter (λ m. nat_le m.owner most) kept) made most (without_owner (suc most) living) serials block types
stored_left {o} {templates} {kept} {made} {most} {living} some low h =
    record {
      owned = λ j at. stays_left owner_in (suc most) (o.owner j) (o.of j) living (h.owned j at) (below_high (o.owner j) most (low j _ at)) ∙ h.owned j at;
      apart = λ i j at at' e. h.apart i j at at' e;
      older = λ j at. h.older j at;
      alike = alike_left templates most living kept h.alike;
      counted = h.counted;
      table = h.table;
      first = λ n l is. let old = h.first n l is in let mine = old.1.1 in (found_left kept most n l old.0 (le-leb l.owner most (omega (arith, mine, some))), old.1);
    }

-- what another variable holds stays
pub lives_left : {o : Serials} {templates : List Template} {kept : List S.Living} {made most : ℕ} {living : List Living} {serials : ℕ} {block : Names} {types : Types} (j : ℕ) {kind : Kind} → slice_get types j ≡ Some kind → o.owner j ≤ most → Stored o templates kept made (suc most) living serials block types → generation_of (living_of (without_owner (suc most) living) (o.of j)) ≡ generation_of (living_of living (o.of j))
lives_left {o} {most = most} {living} j at low h =
    generation_left (suc most) (o.owner j) (o.of j) living (h.owned j at) (below_high (o.owner j) most low)

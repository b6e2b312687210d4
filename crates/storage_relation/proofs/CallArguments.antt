-- What the arguments of a call mean: names, areas and generations.
use Rattle.std.proofs.Common.{◌≡◌, ℕ, List, Option, Some, None, true, false, refl, ap, ◌∙◌}
use Rattle.std.specs.Prelude.{cond, ◌==◌, is_some, slice_get}
use Rattle.pli_meaning.specs.BasicValues.{Name, VariableName}
use Rattle.pli_meaning.specs.Contents.{Shape, Generation}
use Rattle.pli_meaning.specs.StorageState as M
use Rattle.pli_types.specs.Templates.{Template}
use Rattle.pli_serving.specs.Arguments.{AreaArgument, area_named, area_if, name_in, own_signature, variable_asked}
use Rattle.pli_serving.specs.Arguments.{asked, asked_by, asked_at}
use Rattle.pli_serving.specs.Finding as F
use Rattle.pli_serving.specs.Finding.{FoundAt, NotLiving}
use Rattle.pli_serving.specs.Templates.{shape_in, shape_at}
use Rattle.storage_relation.proofs.Answering.{area_argued}
use Rattle.storage_relation.proofs.Finding.{found_named, named_found, named_unfound}
use Rattle.storage_relation.specs.Served.{Now, call, Holds, FoundFor, NamesArea, IsNumberOf}
use Rattle.storage_relation.specs.Standing.{AreaOf}
use Rattle.storage_relation.specs.Stored.{slice}

pub area_of_argument : (w : Now) → Holds w → (at n : ℕ) → NamesArea w at n → (a : AreaArgument)
    × (area_named (call w) at ≡ Some a) × (a.serial ≡ n)
area_of_argument w h at n is = (
  record {
    serial = n;
    area = record {
      at = w.places.at n;
      bytes = slice w.keeper w.places n (AreaOf is.area)
          w.memory;
    };
  },
  area_argued w h at n is,
  refl,
)

pub no_area_given : (w : Now) → area_if (call w) 0 ≡ Some None
no_area_given w = refl

pub area_given : (w : Now) → Holds w → (at n : ℕ) → (at == 0) ≡ false → NamesArea w at n → area_if (call w) at
    ≡ Some (Some n)
area_given w h at n some is =
    let a = area_of_argument w h at n is in
    ap (λ q. cond q (Some None) (F_map (area_named (call w) at))) some
    ∙ ap F_map a.1
    ∙ ap (λ i. Some (Some i)) a.2
  where
    F_map : Option AreaArgument → Option (Option ℕ)
    F_map None = None
    F_map (Some a) = Some (Some a.serial)

-- ---- generations

pub number_there : (t : List Template) (number : ℕ) (shape : Shape) → shape_at t number ≡ Some shape →
    is_some (slice_get t number) ≡ true
number_there t number shape e = by (slice_get t number) e
  where
    by : (o : Option Template) → shape_in o ≡ Some shape → is_some o ≡ true
    by None e = absurd (cc e)
    by (Some u) e = refl

pub asked_is :
    (w : Now) (n : Name) (number : ℕ) (shape : Shape) → IsNumberOf w number shape →
    asked (call w) n number ≡ Some (F.named (call w) n number)
asked_is w n number shape is =
    ap (λ q. cond q (variable_if n) (cond (is_some (slice_get w.places.signatures number))
    (Some (F.named (call w) n number)) None)) is.own
    ∙ ap (λ q. cond q (Some (F.named (call w) n number)) None)
    (number_there w.places.signatures number shape is.shape_same)
  where
    variable_if : Name → Option F.Finding
    variable_if n = variable_asked (call w) n

-- the generation that the name at an address names
pub asked_named :
    (w : Now) → Holds w → (at number : ℕ) (n : Name) (shape : Shape) (g : Generation) → IsNumberOf w number shape →
    name_in (call w) at ≡ Some n → M.named w.state n shape ≡ Some g →
    (i : FoundFor w n g) × (asked_at (call w) at number ≡ Some (FoundAt i.found))
asked_named w h at number n shape g is e f =
    let r = named_found w.keeper h.keeps w.layout w.places w.state w.services w.memory n number shape g h.heap h.lives
    h.stored h.distinct is.shape_same f in
    (r.0, ap (λ o. asked_by (call w) o number) e ∙ asked_is w n number shape is ∙ ap Some r.1)

pub asked_unnamed :
    (w : Now) → Holds w → (at number : ℕ) (n : Name) (shape : Shape) → IsNumberOf w number shape →
    name_in (call w) at ≡ Some n → M.named w.state n shape ≡ None → asked_at (call w) at number ≡ Some NotLiving
asked_unnamed w h at number n shape is e f =
    ap (λ o. asked_by (call w) o number) e
    ∙ asked_is w n number shape is
    ∙ ap Some (named_unfound w.keeper h.keeps w.layout w.places w.state w.services w.memory n number shape h.heap
    h.lives h.stored h.distinct is.shape_same f)

-- a variable's own signature is asked for
pub asked_own :
    (w : Now) → Holds w → (at serial : ℕ) (g : Generation) → name_in (call w) at ≡ Some (VariableName serial) →
    M.generation_at w.state (VariableName serial) ≡ Some g →
    (i : FoundFor w (VariableName serial) g) × (asked_at (call w) at own_signature ≡ Some (FoundAt i.found))
asked_own w h at serial g e f =
    let i = found_named w.keeper h.keeps w.layout w.places w.state w.services w.memory (VariableName serial) g h.heap
    h.lives h.stored f in
    (i, ap (λ o. asked_by (call w) o own_signature) e ∙ ap Some i.is)

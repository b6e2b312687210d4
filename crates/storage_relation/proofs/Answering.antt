-- What services 10 to 13 answer, and that memory then has what the storage machine has.
use Rattle.std.proofs.Common.{◌≡◌, ◌≢◌, ℕ, ◌<◌, ◌≤◌, List, [], Option, Some, None, Bool, true, false, sym, ap, ◌∙◌}
use Rattle.std.proofs.Common.{subst}
use Rattle.std.proofs.lemmas.Bool.{eqb-true}
use Rattle.std.specs.Prelude.{cond, ◌==◌, ◌&&◌, is_some, slice_get, if◌then◌else◌}
use Rattle.pli_meaning.specs.BasicValues.{BasedName}
use Rattle.pli_meaning.specs.Codes.{area_code}
use Rattle.pli_meaning.specs.Contents.{placed_at, Shape, same_shape, Generation, without_offset, greatest_end}
use Rattle.pli_meaning.specs.StorageState as M
use Rattle.pli_meaning.specs.StorageState.{State, AreaContents, area_at, with_area, heap_serial}
use Rattle.pli_types.specs.Templates.{Template}
use Rattle.area_keeper.specs.Keeper.{Keeper}
use Rattle.area_keeper.specs.KeptAreas.{with_part}
use Rattle.pli_serving.specs.Answers.{Answer, Done}
use Rattle.pli_serving.specs.AreaServices as A
use Rattle.pli_serving.specs.Arguments.{AreaArgument, area_argument, area_of_name, area_named, area_if, is_area}
use Rattle.pli_serving.specs.Arguments.{name_in, asked, where_found}
use Rattle.pli_serving.specs.Finding as F
use Rattle.pli_serving.specs.Finding.{Call, FoundAt}
use Rattle.pli_serving.specs.Outcomes.{or_bad, bad_unless}
use Rattle.pli_serving.specs.ServiceState as S
use Rattle.pli_serving.specs.Templates.{shape_at}
use Rattle.storage_relation.proofs.AreaLaws.{area_refused}
use Rattle.storage_relation.proofs.Finding.{area_served, named_found}
use Rattle.storage_relation.proofs.Holders.{eqb-refl, eqb-other}
use Rattle.storage_relation.proofs.Named.{area_holder, based_in}
use Rattle.storage_relation.proofs.Storing.{taken-other, taken-some, emptied, freed, copied}
use Rattle.storage_relation.specs.Served.{AreDistinct, area_bytes_of}
use Rattle.storage_relation.specs.Standing.{AreaStands, AreaOf}
use Rattle.storage_relation.specs.Stored.{Places, slice, StoredAs}
use Rattle.storage_relation.specs.Served.{Now, Holds, call, NamesArea, IsNumberOf}

-- ---- arguments

pub area_argued :
    (w : Now) → Holds w → (at n : ℕ) (is : NamesArea w at n) →
    area_named (call w) at ≡ Some (record {
      serial = n;
      area = record { at = w.places.at n; bytes = slice w.keeper w.places n (AreaOf is.area) w.memory };
    })
area_argued w h at n is =
    let living = F.area_living (call w) (S.living_of (call w).services.living n) in
    let there : living ≡ Some (area_bytes_of w.keeper w.places w.memory n is.area) =
    sym (ap (λ q. cond q (Some (F.heap_bytes (call w))) living) (eqb-other n heap_serial is.some))
    ∙ area_served w.keeper w.layout w.places w.state w.services w.memory n is.area h.heap h.lives is.lives
    in
    ap (area_of_name (call w)) is.name
    ∙ ap (area_argument n) there
    ∙ ap (λ bytes. Some (record { serial = n; area = record { at = w.places.at n; bytes = bytes } }))
    (taken-other w.keeper w.places n (slice w.keeper w.places n (AreaOf is.area) w.memory) is.some)

area_of_bytes :
    (k : Keeper) (t : List Template) (a : AreaContents) (bytes : List ℕ) → AreaStands k t a bytes →
    is_some (k.area_of bytes) ≡ true
area_of_bytes k t a bytes is = ap is_some is.stands

abbrev own_bytes : (w : Now) (at n : ℕ) → NamesArea w at n → List ℕ
own_bytes w at n is = slice w.keeper w.places n (AreaOf is.area) w.memory

own_area :
    (w : Now) → Holds w → (at n : ℕ) (is : NamesArea w at n) →
    AreaStands w.keeper w.places.signatures is.area (own_bytes w at n is)
own_area w h at n is =
    subst (AreaStands w.keeper w.places.signatures is.area)
    (taken-other w.keeper w.places n (own_bytes w at n is) is.some)
    (h.stored.stands n (AreaOf is.area) (area_holder w.state n is.area is.lives))

-- ---- 13: EMPTY

pub empty_answer :
    (w : Now) → Holds w → (at x n : ℕ) → NamesArea w at n →
    (new : List ℕ) × (A.empty_served (call w) at x ≡ Done (call w).services new at x)
    × StoredAs w.keeper w.places (with_area n (λ placed. []) w.state) new
empty_answer w h at x n is =
    let bytes = own_bytes w at n is in
    let new = with_part (w.keeper.emptied bytes) (w.places.at n) w.memory in (
      new,
      ap (λ o. or_bad o (λ a. bad_unless (is_area (call w) a) (Done (call w).services
          (with_part (w.keeper.emptied a.area.bytes) a.area.at w.memory) at x)))
          (area_argued w h at n is)
          ∙ ap (λ q. bad_unless q (Done (call w).services new at x))
          (area_of_bytes w.keeper w.places.signatures is.area bytes (own_area w h at n is)),
      emptied w.keeper h.keeps w.places w.state w.memory n is.area is.some h.stored
          (area_holder w.state n is.area is.lives),
    )

-- ---- 12: an area assigned to another

abbrev assign_with : Call → (target : ℕ) → AreaArgument → AreaArgument → Answer
assign_with c target into from =
    bad_unless (is_area c into && is_area c from)
    (if into.serial == from.serial then Done c.services c.memory target 0
    else A.assignment_answered c target into.area.at (c.keeper.copied from.area.bytes into.area.bytes))

assign_step :
    (w : Now) → Holds w → (target source i j : ℕ) (to : NamesArea w target i) (from : NamesArea w source j) → i ≢ j →
    A.area_assignment_served (call w) target source
    ≡ A.assignment_answered (call w) target (w.places.at i)
    (w.keeper.copied (own_bytes w source j from) (own_bytes w target i to))
assign_step w h target source i j to from ne =
    let into : AreaArgument = record {
      serial = i;
      area =
          record { at = w.places.at i; bytes = own_bytes w target i to };
    } in
    let other : AreaArgument =
    record { serial = j; area = record { at = w.places.at j; bytes = own_bytes w source j from } } in
    let answer = A.assignment_answered (call w) target (w.places.at i)
    (w.keeper.copied (own_bytes w source j from) (own_bytes w target i to)) in
    let p = area_of_bytes w.keeper w.places.signatures to.area (own_bytes w target i to) (own_area w h target i to) in
    let q = area_of_bytes w.keeper w.places.signatures from.area (own_bytes w source j from)
    (own_area w h source j from) in
    ap (λ o. or_bad o (λ a. or_bad (area_named (call w) source) (assign_with (call w) target a)))
    (area_argued w h target i to)
    ∙ ap (λ o. or_bad o (assign_with (call w) target into)) (area_argued w h source j from)
    ∙ ap (λ t. bad_unless (t && is_area (call w) other)
    (if i == j then Done (call w).services w.memory target 0 else answer)) p
    ∙ ap (λ t. bad_unless t (if i == j then Done (call w).services w.memory target 0 else answer)) q
    ∙ ap (λ t. cond t (Done (call w).services w.memory target 0) answer) (eqb-other i j ne)

pub assign_answer :
    (w : Now) → Holds w → (target source i j : ℕ) (to : NamesArea w target i) (from : NamesArea w source j) → i ≢ j →
    greatest_end from.area.placed ≤ to.area.capacity →
    (new : List ℕ) × (A.area_assignment_served (call w) target source ≡ Done (call w).services new target 0)
    × StoredAs w.keeper w.places (with_area i (λ placed. from.area.placed) w.state) new
assign_answer w h target source i j to from ne small =
    let r =
    copied w.keeper h.keeps w.places w.state w.memory j i from.area to.area from.some to.some h.stored
    (area_holder w.state j from.area from.lives) (area_holder w.state i to.area to.lives) small
    in (
      with_part r.0 (w.places.at i) w.memory,
      assign_step w h target source i j to from ne ∙ ap (A.assignment_answered (call w) target (w.places.at i)) r.1,
      r.2,
    )

-- one that is too small: AREA is raised, and nothing changes
pub assign_refused :
    (w : Now) → Holds w → (target source i j : ℕ) (to : NamesArea w target i) (from : NamesArea w source j) → i ≢ j →
    to.area.capacity < greatest_end from.area.placed →
    A.area_assignment_served (call w) target source ≡ Done (call w).services w.memory target area_code
assign_refused w h target source i j to from ne big =
    assign_step w h target source i j to from ne
    ∙ ap (A.assignment_answered (call w) target (w.places.at i))
    (area_refused w.keeper w.places.signatures h.keeps from.area to.area (own_bytes w source j from)
    (own_bytes w target i to) (own_area w h source j from) (own_area w h target i to) big)

-- ---- 11: FREE

pub number_same :
    (t : List Template) (i j : ℕ) (a : Shape) → AreDistinct t → shape_at t i ≡ Some a → shape_at t j ≡ Some a → i ≡ j
number_same t i j a distinct e f = eqb-true i j (sym (distinct i j a a e f) ∙ distinct i i a a e e ∙ eqb-refl i)

-- what FREE makes of an area's bytes
pub record Freed (k : Keeper) (π : Places) (s : State) (m : List ℕ) (n o : ℕ) (g : Generation) : Type 0 where
  pub area : AreaContents
  pub was : area_at s n ≡ Some area
  pub there : placed_at area.placed o ≡ Some g
  pub signature : ℕ
  pub bytes : List ℕ
  pub freed_so : k.freed o signature (slice k π n (AreaOf area) m) ≡ Some bytes
  pub stored : StoredAs k π (with_area n (without_offset o) s) (with_part bytes (π.at n) m)

pub free_answer :
    (w : Now) → Holds w → (name number area n o : ℕ) (within : Option ℕ) (shape : Shape) (g : Generation) →
    IsNumberOf w number shape × (is_some (slice_get w.places.signatures number) ≡ true) →
    name_in (call w) name ≡ Some (BasedName n o) → area_if (call w) area ≡ Some within →
    A.is_given n within ≡ true → M.named w.state (BasedName n o) shape ≡ Some g →
    (f : Freed w.keeper w.places w.state w.memory n o g)
    × (A.free_served (call w) name number area
    ≡ Done (call w).services (with_part f.bytes (w.places.at n) w.memory) name 0)
free_answer w h name number area n o within shape g is named inside given f =
    let c = call w in
    let r = named_found w.keeper h.keeps w.layout w.places w.state w.services w.memory (BasedName n o) number shape g
    h.heap h.lives h.stored h.distinct is.0.shape_same f in
    let found = r.0.found in
    let lived : M.generation_at w.state (BasedName n o) ≡ Some g =
    lives_by (M.generation_at w.state (BasedName n o)) f in
    let b = based_in (area_at w.state n) o g lived in
    let a = b.0 in
    let bytes = slice w.keeper w.places n (AreaOf a) w.memory in
    let x = freed w.keeper h.keeps w.places w.state w.memory n o a g h.stored (area_holder w.state n a b.1) b.2 in
    let same : found.signature ≡ x.0.signature =
    number_same w.places.signatures found.signature x.0.signature g.shape h.distinct r.0.shape x.2 in
    let taken = taken-some w.keeper h.keeps w.places w.state w.memory n a o g bytes h.stored
    (area_holder w.state n a b.1) b.2 in
    let at : F.area_at c n ≡ Some (record { at = w.places.at n; bytes = bytes }) =
    area_served w.keeper w.layout w.places w.state w.services w.memory n a h.heap h.lives b.1
    ∙ ap (λ z. Some (record { at = w.places.at n; bytes = z })) taken in
    let asks : asked c (BasedName n o) number ≡ Some (FoundAt found) =
    ap (λ q. cond q None (cond (is_some (slice_get w.places.signatures number))
    (Some (F.named c (BasedName n o) number)) None)) is.0.own
    ∙ ap (λ q. cond q (Some (F.named c (BasedName n o) number)) None) is.1
    ∙ ap Some r.1
    in (
      record {
        area = a;
        was = b.1;
        there = b.2;
        signature = x.0.signature;
        bytes = x.1;
        freed_so = x.3;
        stored = x.4;
      },
      ap (λ z. or_bad z (λ n'. or_bad (area_if c area) (λ within'. where_found (asked c n' number)
          (Done c.services w.memory name 101) (λ f'. A.name_freed c name n' f'.signature within')))) named
          ∙ ap (λ z. or_bad z (λ within'. where_found (asked c (BasedName n o) number)
          (Done c.services w.memory name 101) (λ f'. A.name_freed c name (BasedName n o) f'.signature within'))) inside
          ∙ ap (λ z. where_found z (Done c.services w.memory name 101)
          (λ f'. A.name_freed c name (BasedName n o) f'.signature within)) asks
          ∙ ap (λ q. cond q (or_bad (F.area_at c n) (λ a'. A.without_kept c name o found.signature a'))
          (Done c.services w.memory name 110)) given
          ∙ ap (λ z. or_bad z (λ a'. A.without_kept c name o found.signature a')) at
          ∙ ap (λ z. or_bad (w.keeper.freed o z bytes) (λ bytes'. Done c.services
          (with_part bytes' (w.places.at n) w.memory) name 0)) same
          ∙ ap (λ z. or_bad z (λ bytes'. Done c.services (with_part bytes' (w.places.at n) w.memory) name 0)) x.3,
    )
  where
    lives_by : (o : Option Generation) → M.if_same_shape shape o ≡ Some g → o ≡ Some g
    lives_by None e = absurd (cc e)
    lives_by (Some h) e = by (same_shape h.shape shape) e
      where
        by : (q : Bool) → cond q (Some h) None ≡ Some g → Some h ≡ Some g
        by true e = e
        by false e = absurd (cc e)

-- Service 8 with mode 1: the elements of an aggregate, one by one in the order of streams. A shape in memory says how the aggregate
-- is made: the number of the subscripts given, then for each structure, array or leaf in it, those inside behind it, the
-- dimensions that it declares itself (the first one: all that the subscripts leave), how many stand in it, and its first leaf.
use Rattle.std.specs.Prelude.{ℕ, zero, suc, ◌+◌, ◌-◌, ◌*◌, ◌^◌, Bool, true, false, nat_le, List, [], ◌∷◌, ◌++◌, length, Option, Some, None, slice_get, if◌then◌else◌}
use Rattle.pli_typing.specs.TypedTree as Y
use Rattle.pli_typing.specs.Signatures.{LeafKind}
use Rattle.rv_meaning.specs.Memory.{bytes_of_words}
use Rattle.pli_meaning.specs.Codes.{no_generation_code, extent_code}
use Rattle.pli_meaning.specs.Contents.{leaves_with}
use Rattle.pli_meaning.specs.Evaluating.{leaf_at}
use Rattle.pli_meaning.specs.StreamOrder.{Element, nest_of, leaves_inside, elements_inside}
use Rattle.pli_serving.specs.Bytes.{is_data, word_at, with_bytes}
use Rattle.pli_serving.specs.Answers.{Answer, Done, Bad}
use Rattle.pli_serving.specs.Finding.{Call, Finding, FoundAt, NotLiving, NoArea, named}
use Rattle.pli_serving.specs.Outcomes.{then_found, or_bad, bad_unless, answering}
use Rattle.pli_serving.specs.Names.{kind_words}
use Rattle.pli_serving.specs.Aggregates.{Aggregate, aggregate_at, subscripts_given, element_at, designated_in, is_there}

-- ---- shapes in memory

-- members that were read, and the address behind them
pub record ReadMembers : Type 0 where
  pub members : List Y.Member
  pub behind : ℕ

-- what reads so many members of a depth from an address on
abbrev pub MemberReader : Type 0
MemberReader = (count depth at : ℕ) → Option ReadMembers

abbrev pub member_before : (depth dimensions : ℕ) → (inside : List Y.Member) → Option ReadMembers → Option ReadMembers
member_before depth dimensions inside None = None
member_before depth dimensions inside (Some rest) =
    Some (record {
      members = record { depth = depth; dimensions = dimensions } ∷ inside ++ rest.members;
      behind = rest.behind;
    })

-- a member, those in it, and behind these so many more beside it
abbrev pub member_then : (depth dimensions left : ℕ) → (inside : Option ReadMembers) → MemberReader → Option ReadMembers
member_then depth dimensions left None members = None
member_then depth dimensions left (Some inside) members =
    member_before depth dimensions inside.members (members left depth inside.behind)

abbrev pub member_if : (is_data : Bool) → (depth dimensions count behind left : ℕ) → (members : MemberReader) → Option ReadMembers
member_if false depth dimensions count behind left members = None
member_if true depth dimensions count behind left members =
    member_then depth dimensions left (members count (suc depth) behind) members

-- so many members of a depth, with those in them, from an address on; of the most that memory holds
abbrev pub members_at : (most : ℕ) → Call → (count depth at : ℕ) → Option ReadMembers
members_at most c zero depth at = Some (record { members = []; behind = at })
members_at zero c (suc left) depth at = None
members_at (suc most) c (suc left) depth at =
    member_if (is_data c.layout at 12) depth (word_at at c.memory) (word_at (at + 4) c.memory) (at + 12) left
    (λ count depth behind. members_at most c count depth behind)

-- an item of GET or PUT: the subscripts given, its first leaf, and its members
pub record ItemShape : Type 0 where
  pub given : ℕ
  pub first : ℕ
  pub members : List Y.Member

abbrev pub item_shape_of : Call → (at : ℕ) → Option ReadMembers → Option ItemShape
item_shape_of c at None = None
item_shape_of c at (Some r) =
    Some (record { given = word_at at c.memory; first = word_at (at + 12) c.memory; members = r.members })

-- the shape at an address, none where it isn't one
abbrev pub item_shape_at : Call → (at : ℕ) → Option ItemShape
item_shape_at c at = if is_data c.layout at 16 then item_shape_of c at (members_at c.layout.end c 1 0 (at + 4)) else None

-- ---- elements

-- in the storage machine's order, with all their subscripts; none where a leaf or a dimension isn't there
abbrev pub elements_by : Call → Aggregate → ItemShape → Option (List Element)
elements_by c a i =
    if nat_le (i.first + leaves_inside (nest_of i.members)) (length a.shape.signature.leaves)
    then then_found (subscripts_given a i.first i.given)
    (λ is. Some (elements_inside (nest_of i.members) i.first (leaves_with a.extent a.shape) is))
    else None

-- what the buffer gets: the kind, and the precision or the length in force
abbrev pub buffer_bytes : LeafKind → List ℕ
buffer_bytes kind = bytes_of_words (kind_words kind)

-- 101 where the generation doesn't live, 107 where it doesn't have the element in full
abbrev pub element_answered : Call → (x : ℕ) → Aggregate → Element → (memory : List ℕ) → Finding → Answer
element_answered c x a e memory (FoundAt f) =
    if is_there (designated_in c a f (record { first = e.0; count = 1 }) e.1) e
    then Done c.services memory (element_at a.shape f e) 0
    else Done c.services memory x extent_code
element_answered c x a e memory NotLiving = Done c.services memory x no_generation_code
element_answered c x a e memory NoArea = Bad

-- the buffer is written whatever the status
abbrev pub element_found : Call → (x : ℕ) → Aggregate → (buffer : ℕ) → Element → Answer
element_found c x a buffer e =
    bad_unless (is_data c.layout buffer 8)
    (element_answered c x a e
    (with_bytes (buffer_bytes (leaf_at a.shape a.extent e.0).kind) buffer c.memory)
    (named c a.name a.signature))

-- ---- the service: where the element of a number stands. The number is two words, the lower one first.

abbrev pub of_two_words : (low high : ℕ) → ℕ
of_two_words low high = low + 2 ^ 32 * high

-- all ones where there is none of the number
abbrev pub no_element : ℕ
no_element = 2 ^ 32 - 1

abbrev pub element_if : Call → (x : ℕ) → Aggregate → (buffer : ℕ) → Option Element → Answer
element_if c x a buffer None = answering c no_element 0
element_if c x a buffer (Some e) = element_found c x a buffer e

abbrev pub element_served : Call → (aggregate shape number buffer : ℕ) → Answer
element_served c aggregate shape number buffer =
    or_bad (aggregate_at c aggregate)
    (λ a.
    or_bad (then_found (item_shape_at c shape) (elements_by c a))
    (λ elements. element_if c aggregate a buffer (slice_get elements number)))

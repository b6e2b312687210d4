-- The third keeper: what is free is a list. A free block holds its size and the link to the next free block, in the
-- order of their
-- offsets; two never touch, so that each is as large as it can be. A map of bits tells at which multiples of 16 a
-- generation begins:
-- whatever a program writes into its data, nothing there is taken for a header. The area's mark word stands first,
-- then its
-- capacity, the link to the first free block, the map, and the capacity's bytes, from the next place on that is a
-- multiple of 16. A
-- generation's first 16 bytes are its header: its size, signature and extent, a word each.
--
-- A link is 0 behind the last free block, else one more than the offset of the next. What leads to a free block is
-- told likewise: 0
-- is the area's own link, else one more than the offset of the free block that holds the link.
use Rattle.std.specs.Prelude.{ℕ, zero, suc, ◌+◌, ◌-◌, ◌*◌, ◌/◌, ◌%◌, ℤ, Bool, ◌&&◌, ◌==◌, nat_lt, nat_le, List, []}
use Rattle.std.specs.Prelude.{◌∷◌, ◌++◌, length, take, replicate, Option, Some, None, if◌then◌else◌}
use Rattle.rv_meaning.specs.Words.{signed, word}
use Rattle.pli_typing.specs.Signatures.{rounded_up, footprint}
use Rattle.area_keeper.specs.Keeper.{Kept, KeptArea, Keeper}
use Rattle.area_keeper.specs.KeptAreas.{kept_as, kept_end, kept_at, part, with_part}
use Rattle.area_keeper.specs.KeeperLaws.{greatest_capacity}
use Rattle.area_keeper.specs.Chain.{word_at, with_word, capacity_in, follows}
use Rattle.free_keeper.specs.Bits.{bit_at, with_bit_at}

-- ---- the front

-- what tells such an area from other bytes: the letters FREE
abbrev pub mark : ℕ
mark = 0x45455246

-- where the map stands, and how many bytes it has: a bit for each 16 bytes of the capacity
abbrev pub map_place : ℕ
map_place = 12

abbrev pub map_for : (capacity : ℕ) → ℕ
map_for capacity = (capacity + 127) / 128

-- how many bytes stand in front of the capacity's
abbrev pub front_for : (capacity : ℕ) → ℕ
front_for capacity = rounded_up 16 (map_place + map_for capacity)

abbrev pub bytes_for : (capacity : ℕ) → ℕ
bytes_for capacity = front_for capacity + capacity

-- whether bytes begin with an area's words, and are as many as its capacity takes
abbrev pub has_front : List ℕ → Bool
has_front bytes =
    (word_at 0 bytes == mark)
    && ((capacity_in bytes % 16 == 0)
    && (nat_le (capacity_in bytes) greatest_capacity && (length bytes == bytes_for (capacity_in bytes))))

-- ---- free blocks

pub record Free : Type 0 where
  pub offset : ℕ
  pub size : ℕ

abbrev pub free : (offset size : ℕ) → Free
free offset size = record { offset = offset; size = size }

-- where the link stands that leads to a free block
abbrev pub link_place : (front before : ℕ) → ℕ
link_place front zero = 8
link_place front (suc o) = 4 + (front + o)

abbrev pub link_behind : (front before : ℕ) → List ℕ → ℕ
link_behind front before bytes = word_at (link_place front before) bytes

abbrev pub size_of : (front offset : ℕ) → List ℕ → ℕ
size_of front o bytes = word_at (front + o) bytes

-- a free block with its link, and the link to it
abbrev pub with_free : (front before : ℕ) → Free → (link : ℕ) → List ℕ → List ℕ
with_free front before f link bytes =
    with_word (link_place front before) (suc f.offset)
    (with_word (link_place front (suc f.offset)) link (with_word (front + f.offset) f.size bytes))

-- all from a place on is free, behind the last free block in front of it
abbrev pub with_end : (front before from capacity : ℕ) → List ℕ → List ℕ
with_end front before from capacity bytes =
    if from == capacity then with_word (link_place front before) 0 bytes
    else with_free front before (free from (capacity - from)) 0 bytes

-- ---- what is free between generations

abbrev pub gap_before : (start end : ℕ) → List Free → List Free
gap_before start end fs = if nat_lt start end then free start (end - start) ∷ fs else fs

abbrev pub gaps : (start capacity : ℕ) → List Kept → List Free
gaps start capacity [] = gap_before start capacity []
gaps start capacity (g ∷ gs) = gap_before start g.offset (gaps (kept_end g) capacity gs)

-- ---- what bytes stand for

abbrev pub kept_in : (header offset : ℕ) → List ℕ → Kept
kept_in at o bytes = kept_as o (word_at at bytes) (word_at (4 + at) bytes) (signed (word_at (8 + at) bytes))

-- the generations that begin at so many places, by the map
abbrev pub placed_from : (front number place : ℕ) → List ℕ → List Kept
placed_from front zero i bytes = []
placed_from front (suc n) i bytes =
    if bit_at map_place i bytes == 1 then kept_in (front + 16 * i) (16 * i) bytes ∷ placed_from front n (suc i) bytes
    else placed_from front n (suc i) bytes

abbrev pub placed_in : List ℕ → List Kept
placed_in bytes = placed_from (front_for (capacity_in bytes)) (8 * map_for (capacity_in bytes)) 0 bytes

-- whether none meets another, and all end within the capacity
abbrev pub in_order : (start capacity : ℕ) → List Kept → Bool
in_order start capacity [] = nat_le start capacity
in_order start capacity (g ∷ gs) = follows start capacity g && in_order (kept_end g) capacity gs

-- whether links lead along just these free blocks
abbrev pub is_listed : (front link : ℕ) → List ℕ → List Free → Bool
is_listed front link bytes [] = link == 0
is_listed front link bytes (f ∷ fs) =
    (link == suc f.offset)
    && ((size_of front f.offset bytes == f.size) && is_listed front (link_behind front (suc f.offset) bytes) bytes fs)

-- generations lie in order, and the list of free blocks is what they leave
abbrev pub is_whole : (front capacity : ℕ) → List ℕ → List Kept → Bool
is_whole front capacity bytes gs =
    in_order 0 capacity gs && is_listed front (link_behind front 0 bytes) bytes (gaps 0 capacity gs)

abbrev pub free_list_area : List ℕ → Option KeptArea
free_list_area bytes =
    if has_front bytes && is_whole (front_for (capacity_in bytes)) (capacity_in bytes) bytes (placed_in bytes)
    then Some (record { capacity = capacity_in bytes; placed = placed_in bytes })
    else None

-- ---- making

-- no generation begins anywhere, and all is one free block
abbrev pub freed_all : (capacity : ℕ) → List ℕ → List ℕ
freed_all capacity bytes =
    with_end (front_for capacity) 0 0 capacity (with_part (replicate (map_for capacity) 0) map_place bytes)

abbrev pub free_list_made : (capacity : ℕ) → List ℕ → List ℕ
free_list_made capacity bytes = freed_all capacity (with_word 4 capacity (with_word 0 mark bytes))

abbrev pub free_list_emptied : List ℕ → List ℕ
free_list_emptied bytes = freed_all (capacity_in bytes) bytes

-- how many steps a walk along the free blocks has at most: each takes 16 bytes at least, so that it ends where links
-- go round
abbrev pub steps_for : (capacity : ℕ) → ℕ
steps_for capacity = suc (capacity / 16)

-- ---- ALLOCATE

-- what leads to the first free block of so many bytes or more
abbrev pub room_behind : (steps needed front before link : ℕ) → List ℕ → Option ℕ
room_behind zero n front before link bytes = None
room_behind (suc k) n front before zero bytes = None
room_behind (suc k) n front before (suc o) bytes =
    if nat_le n (size_of front o bytes) then Some before
    else room_behind k n front (suc o) (link_behind front (suc o) bytes) bytes

-- without the first bytes of a free block: what is left of it is free
abbrev pub without_room : (front before needed offset size link : ℕ) → List ℕ → List ℕ
without_room front before n o size link bytes =
    if size == n then with_word (link_place front before) link bytes
    else with_free front before (free (o + n) (size - n)) link bytes

abbrev pub with_header : (at : ℕ) → Kept → List ℕ → List ℕ
with_header at g bytes = with_word (8 + at) (word g.extent) (with_word (4 + at) g.signature (with_word at g.size bytes))

-- a generation at the front of a free block; its data stay what the bytes were
abbrev pub with_generation : (front before : ℕ) → Kept → List ℕ → List ℕ
with_generation front before g bytes =
    with_header (front + g.offset) g
    (with_bit_at map_place (g.offset / 16) 1
    (without_room front before (footprint g.size) g.offset (size_of front g.offset bytes) (link_behind front (suc
    g.offset) bytes) bytes))

abbrev pub placed_behind :
    (size signature : ℕ) → (extent : ℤ) → (front : ℕ) → List ℕ → (before : Option ℕ) → Option (ℕ × List ℕ)
placed_behind size signature extent front bytes None = None
placed_behind size signature extent front bytes (Some before) =
    let o = link_behind front before bytes - 1 in
    Some (o, with_generation front before (kept_as o size signature extent) bytes)

abbrev pub allocated_with : (front capacity size signature : ℕ) → (extent : ℤ) → List ℕ → Option (ℕ × List ℕ)
allocated_with front capacity size signature extent bytes =
    placed_behind size signature extent front bytes
    (room_behind (steps_for capacity) (footprint size) front 0 (link_behind front 0 bytes) bytes)

-- ---- FREE

-- a free block with its link, and what leads to it
pub record Joined : Type 0 where
  pub before : ℕ
  pub block : Free
  pub link : ℕ

-- joined with the free block behind it where they touch
abbrev pub joined_behind : (front before offset size link : ℕ) → List ℕ → Joined
joined_behind front before o n link bytes =
    if link == suc (o + n)
    then record {
      before =
          before;
      block = free o (n + size_of front (o + n) bytes);
      link = link_behind front link bytes;
    }
    else record { before = before; block = free o n; link = link }

-- what is freed at an offset, joined with the free blocks that it touches
abbrev pub joined_from : (steps front offset size before link : ℕ) → List ℕ → Joined
joined_from zero front o n before link bytes = joined_behind front before o n link bytes
joined_from (suc k) front o n before zero bytes = joined_behind front before o n zero bytes
joined_from (suc k) front o n before (suc p) bytes =
    if nat_lt o p then joined_behind front before o n (suc p) bytes
    else if p + size_of front p bytes == o
    then joined_behind front before p (size_of front p bytes + n) (link_behind front (suc p) bytes) bytes
    else joined_from k front o n (suc p) (link_behind front (suc p) bytes) bytes

abbrev pub with_joined : (front : ℕ) → Joined → List ℕ → List ℕ
with_joined front j bytes = with_free front j.before j.block j.link bytes

abbrev pub without_generation : (front capacity : ℕ) → Kept → List ℕ → List ℕ
without_generation front capacity g bytes =
    with_bit_at map_place (g.offset / 16) 0
    (with_joined front (joined_from (steps_for capacity) front g.offset (footprint g.size) 0 (link_behind front 0
    bytes) bytes) bytes)

-- a generation of another signature stays
abbrev pub freed_if : (signature front capacity : ℕ) → List ℕ → Option Kept → Option (List ℕ)
freed_if signature front capacity bytes None = None
freed_if signature front capacity bytes (Some g) =
    if g.signature == signature then Some (without_generation front capacity g bytes) else None

abbrev pub freed_in : (offset signature : ℕ) → List ℕ → Option KeptArea → Option (List ℕ)
freed_in o signature bytes None = None
freed_in o signature bytes (Some a) = freed_if signature (front_for a.capacity) a.capacity bytes (kept_at a.placed o)

-- ---- copies

-- where what is free behind the last generation begins, the capacity where nothing is, and what leads there
pub record End : Type 0 where
  pub from : ℕ
  pub before : ℕ

abbrev pub end_behind : (steps front capacity before link : ℕ) → List ℕ → End
end_behind zero front c before link bytes = record { from = c; before = before }
end_behind (suc k) front c before zero bytes = record { from = c; before = before }
end_behind (suc k) front c before (suc o) bytes =
    if o + size_of front o bytes == c then record { from = o; before = before }
    else end_behind k front c (suc o) (link_behind front (suc o) bytes) bytes

abbrev pub end_in : List ℕ → End
end_in bytes =
    let c = capacity_in bytes in
    end_behind (steps_for c) (front_for c) c 0 (link_behind (front_for c) 0 bytes) bytes

-- the map of other bytes, as far as both go, and zeros
abbrev pub map_copied : (from : List ℕ) → List ℕ → List ℕ
map_copied from bytes =
    let n = map_for (capacity_in bytes) in
    take n (part map_place (map_for (capacity_in from)) from ++ replicate n 0)

-- all as far as the last generation ends; what is free behind it is written anew, since capacities differ
abbrev pub with_copy : End → (from : List ℕ) → List ℕ → List ℕ
with_copy end from bytes =
    let front = front_for (capacity_in bytes) in
    with_end front end.before end.from (capacity_in bytes)
    (with_part (part (front_for (capacity_in from)) end.from from) front
    (with_part (map_copied from bytes) map_place (with_word 8 (word_at 8 from) bytes)))

abbrev pub free_list_copied : (from : List ℕ) → List ℕ → Option (List ℕ)
free_list_copied from bytes =
    if nat_le (end_in from).from (capacity_in bytes) then Some (with_copy (end_in from) from bytes) else None

abbrev pub free_list : Keeper
free_list =
    record {
      bytes_for = bytes_for;
      made = free_list_made;
      area_of = free_list_area;
      data_at = λ offset bytes. 16 + front_for (capacity_in bytes) + offset;
      emptied = free_list_emptied;
      allocated = λ size signature extent bytes.
          allocated_with (front_for (capacity_in bytes)) (capacity_in bytes) size signature extent bytes;
      freed = λ offset signature bytes. freed_in offset signature bytes (free_list_area bytes);
      copied = free_list_copied;
    }

-- The first keeper: headers in a chain, walked from the front. The area's own header stands first, and behind it each byte of the
-- capacity has its place: the 16 bytes that a footprint counts beside its data are the generation's header. A header is four words:
-- of the area a mark, the capacity, one that isn't used and the link to the first generation; of a generation its size, signature
-- and extent and the link to the next. No other bytes are read.
use Rattle.std.specs.Prelude.{ℕ, zero, suc, ◌+◌, ◌/◌, ◌%◌, max, ℤ, Bool, true, false, ◌&&◌, ◌==◌, nat_lt, nat_le, List, [], ◌∷◌, length, Option, Some, None, if◌then◌else◌}
use Rattle.rv_meaning.specs.Memory.{load, store}
use Rattle.rv_meaning.specs.Words.{signed, word}
use Rattle.pli_typing.specs.Signatures.{footprint}
use Rattle.area_keeper.specs.Keeper.{Kept, KeptArea, Keeper}
use Rattle.area_keeper.specs.KeptAreas.{kept_as, kept_end, kept_at, part, with_part}
use Rattle.area_keeper.specs.KeeperLaws.{greatest_capacity}

-- ---- headers

-- what tells an area from other bytes: the letters CHAN
abbrev pub mark : ℕ
mark = 0x4e414843

-- a word has four bytes, the lowest first
abbrev pub word_at : (at : ℕ) → List ℕ → ℕ
word_at at bytes = load 4 bytes at

abbrev pub with_word : (at value : ℕ) → List ℕ → List ℕ
with_word at value bytes = store 4 bytes at value

abbrev pub capacity_in : List ℕ → ℕ
capacity_in bytes = word_at 4 bytes

-- where the area's link stands, and that of the generation at an offset. A link is 0 behind the last generation, else one more
-- than the offset of the next.
abbrev pub first_link : ℕ
first_link = 12

abbrev pub link_of : (offset : ℕ) → ℕ
link_of offset = 28 + offset

-- a header's first three words stand in front of its link
abbrev pub kept_in : (offset : ℕ) → List ℕ → Kept
kept_in offset bytes =
    kept_as offset (word_at (16 + offset) bytes) (word_at (20 + offset) bytes) (signed (word_at (24 + offset) bytes))

abbrev pub with_header : Kept → (link : ℕ) → List ℕ → List ℕ
with_header g link bytes =
    with_word (28 + g.offset) link
    (with_word (24 + g.offset) (word g.extent) (with_word (20 + g.offset) g.signature (with_word (16 + g.offset) g.size bytes)))

-- ---- what bytes stand for

-- whether a generation follows what ends at a place, and ends within the capacity
abbrev pub follows : (start capacity : ℕ) → Kept → Bool
follows start capacity g = nat_le start g.offset && ((g.offset % 16 == 0) && nat_le (kept_end g) capacity)

abbrev pub behind : Kept → Option (List Kept) → Option (List Kept)
behind g None = None
behind g (Some gs) = Some (g ∷ gs)

-- the generations from a link on, none where one doesn't follow the one before it; each takes 16 bytes at least, which bounds
-- their number
abbrev pub walked : (number start capacity link : ℕ) → List ℕ → Option (List Kept)
walked zero start capacity link bytes = None
walked (suc n) start capacity zero bytes = Some []
walked (suc n) start capacity (suc o) bytes =
    if follows start capacity (kept_in o bytes)
    then behind (kept_in o bytes) (walked n (kept_end (kept_in o bytes)) capacity (word_at (link_of o) bytes) bytes)
    else None

-- whether bytes begin with an area's own header, and are as many as its capacity takes
abbrev pub has_front : List ℕ → Bool
has_front bytes =
    (word_at 0 bytes == mark)
    && ((capacity_in bytes % 16 == 0) && (nat_le (capacity_in bytes) greatest_capacity && (length bytes == 16 + capacity_in bytes)))

-- bytes with that header stand for an area if the walk from its link comes to an end
abbrev pub area_with : (capacity : ℕ) → Option (List Kept) → Option KeptArea
area_with capacity None = None
area_with capacity (Some gs) = Some (record { capacity = capacity; placed = gs })

abbrev pub area_behind : (has_front : Bool) → List ℕ → Option KeptArea
area_behind true bytes =
    area_with (capacity_in bytes) (walked (suc (capacity_in bytes / 16)) 0 (capacity_in bytes) (word_at first_link bytes) bytes)
area_behind false bytes = None

abbrev pub chain_area : List ℕ → Option KeptArea
chain_area bytes = area_behind (has_front bytes) bytes

-- ---- what changes bytes

-- the mark, the capacity, and a link to nothing; other bytes stay
abbrev pub chain_made : (capacity : ℕ) → List ℕ → List ℕ
chain_made capacity bytes = with_word first_link 0 (with_word 4 capacity (with_word 0 mark bytes))

abbrev pub chain_emptied : List ℕ → List ℕ
chain_emptied bytes = with_word first_link 0 bytes

-- where the link stands that leads to an offset, or past it
abbrev pub link_before : (at offset : ℕ) → List Kept → ℕ
link_before at o [] = at
link_before at o (g ∷ gs) = if nat_lt g.offset o then link_before (link_of g.offset) o gs else at

-- the link to the first generation from an offset on
abbrev pub link_from : (offset : ℕ) → List Kept → ℕ
link_from o [] = 0
link_from o (g ∷ gs) = if nat_lt g.offset o then link_from o gs else suc g.offset

-- the first end that leaves enough before the next generation
abbrev pub room_from : (start capacity bytes : ℕ) → List Kept → Option ℕ
room_from start capacity bytes [] = if nat_le (start + bytes) capacity then Some start else None
room_from start capacity bytes (g ∷ gs) =
    if nat_le (start + bytes) g.offset then Some start else room_from (kept_end g) capacity bytes gs

-- a generation's header, and the link to it; its data stay what the bytes were
abbrev pub linked : Kept → List Kept → List ℕ → List ℕ
linked g gs bytes = with_word (link_before first_link g.offset gs) (suc g.offset) (with_header g (link_from g.offset gs) bytes)

abbrev pub placed_at : (size signature : ℕ) → (extent : ℤ) → List Kept → List ℕ → Option ℕ → Option (ℕ × List ℕ)
placed_at size signature extent gs bytes None = None
placed_at size signature extent gs bytes (Some o) =
    Some (o, linked (kept_as o size signature extent) gs bytes)

abbrev pub allocated_in : (size signature : ℕ) → (extent : ℤ) → List ℕ → Option KeptArea → Option (ℕ × List ℕ)
allocated_in size signature extent bytes None = None
allocated_in size signature extent bytes (Some a) =
    placed_at size signature extent a.placed bytes (room_from 0 a.capacity (footprint size) a.placed)

-- the link that led to a generation leads past it; its header stays as it was, and isn't reached
abbrev pub unlinked : (offset : ℕ) → List Kept → List ℕ → List ℕ
unlinked o gs bytes = with_word (link_before first_link o gs) (link_from (suc o) gs) bytes

-- a generation of another signature stays
abbrev pub freed_if : (offset signature : ℕ) → List Kept → List ℕ → Option Kept → Option (List ℕ)
freed_if o signature gs bytes None = None
freed_if o signature gs bytes (Some g) = if g.signature == signature then Some (unlinked o gs bytes) else None

abbrev pub freed_in : (offset signature : ℕ) → List ℕ → Option KeptArea → Option (List ℕ)
freed_in o signature bytes None = None
freed_in o signature bytes (Some a) = freed_if o signature a.placed bytes (kept_at a.placed o)

-- where the last footprint ends, 0 in an empty area
abbrev pub last_end : List Kept → ℕ
last_end [] = 0
last_end (g ∷ gs) = max (kept_end g) (last_end gs)

-- all from the link to the first generation on, as far as the last one ends
abbrev pub copied_in : (from : List ℕ) → List ℕ → Option KeptArea → Option KeptArea → Option (List ℕ)
copied_in from bytes (Some s) (Some t) =
    if nat_le (last_end s.placed) t.capacity
    then Some (with_part (part first_link (4 + last_end s.placed) from) first_link bytes)
    else None
copied_in from bytes _ _ = None

abbrev pub chain : Keeper
chain =
    record {
      bytes_for = λ capacity. 16 + capacity;
      made = chain_made;
      area_of = chain_area;
      data_at = λ offset bytes. 32 + offset;
      emptied = chain_emptied;
      allocated = λ size signature extent bytes. allocated_in size signature extent bytes (chain_area bytes);
      freed = λ offset signature bytes. freed_in offset signature bytes (chain_area bytes);
      copied = λ from bytes. copied_in from bytes (chain_area from) (chain_area bytes);
    }

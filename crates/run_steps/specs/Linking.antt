-- Linked code stands in an image item by item, and a mark at the place of its symbol where nothing else marks that.
use Rattle.std.specs.Prelude.{◌≡◌, ℕ, suc, ◌+◌, ◌*◌, List, [], ◌∷◌, true, if◌then◌else◌}
use Rattle.rv_meaning.specs.declared.instr.Instr.{Instr}
use Rattle.pli_coding.specs.Assembly.{Symbol, same_symbol, Item, Mark, Code, item_size}
use Rattle.pli_coding.specs.Linking.{Links, MarkedPlace, marked_place, item_code}
use Rattle.run_steps.specs.Engine.{HasAt}

-- ---- marks

-- how often a symbol is marked
abbrev pub times_marked : Symbol → List MarkedPlace → ℕ
times_marked s [] = 0
times_marked s (m ∷ ms) = if same_symbol s m.symbol then suc (times_marked s ms) else times_marked s ms

-- a mark at an index is the place of its symbol, where that is marked once
abbrev pub MarkStands : Links → ℕ → Symbol → Type 0
MarkStands links i s =
    same_symbol s s ≡ true → times_marked s links.marks ≡ 1 → marked_place s links.marks ≡ 4 * i

-- ---- items

-- an item stands in the code at an index
abbrev pub HasItem : Links → List Instr → ℕ → Item → Type 0
HasItem links code i (Mark s) = MarkStands links i s
HasItem links code i x = HasAt code i (item_code links (4 * i) x)

-- the items stand in the code from this index on
abbrev pub HasItems : Links → List Instr → ℕ → Code → Type 0
HasItems links code i [] = Unit {0}
HasItems links code i (x ∷ xs) = HasItem links code i x × HasItems links code (i + item_size x) xs

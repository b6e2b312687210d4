-- Keepers that keep nearly every law: each is refused by one.
use Rattle.std.proofs.Common.{◌≡◌, ℕ, ◌+◌, ℤ, pos, List, [], ◌∷◌, Option, Some, None, refl, sym, ap, subst, arith}
use Rattle.std.specs.Prelude.{replicate}
use Rattle.pli_typing.specs.Signatures.{Character, scalar}
use Rattle.pli_meaning.specs.Contents.{Placed, fresh}
use Rattle.area_keeper.specs.Keeper.{KeptArea, Keeper}
use Rattle.area_keeper.specs.KeptAreas.{kept_as, part, with_part}
use Rattle.area_keeper.specs.KeeperLaws.{Keeps}
use Rattle.area_keeper.specs.Chain.{linked, last_end, chain_area, chain}
use Rattle.area_keeper.proofs.ChainRows.{generation, done, one, holed, written}

abbrev one_there : KeptArea
one_there = record { capacity = 96; placed = generation 0 16 5 (pos 3) ∷ [] }

abbrev holed_there : KeptArea
holed_there = record { capacity = 96; placed = generation 32 16 6 (pos 0) ∷ [] }

not_some : {X : Type 0} (x : X) → None ≡ Some x → ⊥
not_some x e = cc e

abbrev sixteen : ℕ → List ℕ
sixteen b = replicate 16 b

-- no bytes stand for an area
abbrev blind : Keeper
blind = record chain { area_of = λ bytes. None }

blind_refused : Keeps blind → ⊥
blind_refused h = not_some _ (h.making.made 0 (replicate 16 0) refl (omega arith) refl).stands

-- nothing is freed
abbrev holding : Keeper
holding = record chain { freed = λ offset signature bytes. None }

holding_refused : Keeps holding → ⊥
holding_refused h =
    let r = h.freeing.freed 0 5 one one_there (generation 0 16 5 (pos 3)) refl refl refl in
    not_some r.0 r.1

-- data begin with the link to the next generation
abbrev overlaid : Keeper
overlaid = record chain { data_at = λ offset bytes. 28 + offset }

overlaid_refused : Keeps overlaid → ⊥
overlaid_refused h =
    let r = h.writing.written one one_there 0 (generation 0 16 5 (pos 3)) (9 ∷ []) 28 refl refl (omega arith) (omega arith) in
    not_some one_there r.0.becomes.stands

-- a generation is placed behind the last one, whatever gaps there are
abbrev behind_last : ℕ → ℕ → ℤ → List ℕ → Option KeptArea → Option (ℕ × List ℕ)
behind_last size signature extent bytes None = None
behind_last size signature extent bytes (Some a) =
    Some (last_end a.placed, linked (kept_as (last_end a.placed) size signature extent) a.placed bytes)

abbrev growing : Keeper
growing = record chain { allocated = λ size signature extent bytes. behind_last size signature extent bytes (chain_area bytes) }

abbrev placed_there : List Placed
placed_there =
    record { offset = 32; generation = fresh (record { signature = scalar (Character 16); refer = None }) (pos 0) [] } ∷ []

same_offset : (x y : ℕ × List ℕ) → Some x ≡ Some y → x.0 ≡ y.0
same_offset x y e = let f : x ≡ y = cc e in ap (λ (r : ℕ × List ℕ). r.0) f

growing_refused : Keeps growing → ⊥
growing_refused h =
    let r = h.allocating.placed 16 5 (pos 0) holed holed_there placed_there 0 refl (refl, refl, tt) (omega arith) (record { sfits = omega arith }) refl in
    let e : 64 ≡ 0 = same_offset (64, linked (kept_as 64 16 5 (pos 0)) holed_there.placed holed) (0, r.0) r.1 in
    omega (arith, e)

-- an area takes another's headers, and none of its data
abbrev without_data : Option (List ℕ) → Option (List ℕ)
without_data None = None
without_data (Some bytes) = Some (with_part (sixteen 0) 64 bytes)

abbrev bare : Keeper
bare = record chain { copied = λ from bytes. without_data (chain.copied from bytes) }

same_bytes : (x y : List ℕ) → Some x ≡ Some y → x ≡ y
same_bytes x y e = cc

abbrev small : List ℕ
small = chain.made 64 (replicate 80 0)

abbrev small_there : KeptArea
small_there = record { capacity = 64; placed = [] }

unlike : sixteen 0 ≡ sixteen 9 → ⊥
unlike e = cc e

bare_refused : Keeps bare → ⊥
bare_refused h =
    let r = h.copying.copied written small holed_there small_there placed_there refl refl (refl, refl, tt) (omega arith) in
    let f = same_bytes (with_part (sixteen 0) 64 (done (chain.copied written small))) r.0 r.1 in
    let P : List ℕ → Type 0 = λ bytes. part 64 16 bytes ≡ sixteen 9 in
    unlike (subst P (sym f) r.3.0)

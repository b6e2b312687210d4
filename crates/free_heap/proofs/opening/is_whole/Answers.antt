use Rattle.std.proofs.Common.{◌≡◌, ◌≤◌, ◌+◌, ◌-◌, ◌*◌, true, false, Some, None, length, sym, ap, ◌∙◌, subst, arith}
use Rattle.std.specs.Prelude.{◌==◌}
use Rattle.area_keeper.specs.Chain.{capacity_in}
use Rattle.free_keeper.specs.Bits.{bit_at}
use Rattle.free_keeper.specs.FreeList.{map_for, front_for}
use Rattle.free_heap.proofs.Wholes.{Reading, begun, out_of_order, it_follows, not_listed, reading_goes}
use Rattle.free_heap.proofs.Wholes.{nothing_begins, reading_ends}
use Rattle.free_heap.proofs.opening.is_whole.Goals as goal
use Rattle.free_heap.proofs.opening.is_whole.Goals.{then-begins+in-Some+in-Some-link_past, else-begins}

pub returns-in_default : goal.returns-in_default
returns-in_default c =
    let bytes = c.args.bytes.now in
    let x = begun bytes c.requires in
    let k = c.word_at-capacity.ensures in
    let front = length bytes - c.word_at-capacity.result in
    let n = x.as_many in
    let q : front ≡ front_for (capacity_in bytes) = omega (arith, n, k) in
    let m : c.map_for-place-end.result ≡ map_for (capacity_in bytes) = c.map_for-place-end.ensures ∙ ap map_for k in
    let left = 8 * map_for (capacity_in bytes) - c.places.place in
    let t = c.places-test.true in
    let some : 1 ≤ left = omega (arith, t, m) in
    let b : (bit_at 12 c.places.place bytes == 1) ≡ true = sym c.begins.ensures ∙ c.if-begins.true in
    out_of_order bytes c.places.end c.places.link c.places.place left front c.word_at-capacity.result
    c.places.invariant q k b some c.in_default.ensures

pub returns-in_default-link_past : goal.returns-in_default-link_past
returns-in_default-link_past c =
    let bytes = c.args.bytes.now in
    let x = begun bytes c.requires in
    let k = c.word_at-capacity.ensures in
    let front = length bytes - c.word_at-capacity.result in
    let n = x.as_many in
    let q : front ≡ front_for (capacity_in bytes) = omega (arith, n, k) in
    let m : c.map_for-place-end.result ≡ map_for (capacity_in bytes) = c.map_for-place-end.ensures ∙ ap map_for k in
    let left = 8 * map_for (capacity_in bytes) - c.places.place in
    let t = c.places-test.true in
    let some : 1 ≤ left = omega (arith, t, m) in
    let b : (bit_at 12 c.places.place bytes == 1) ≡ true = sym c.begins.ensures ∙ c.if-begins.true in
    not_listed bytes c.places.end c.places.link c.places.place left front c.in-Some.behind c.places.invariant q b some
    (λ fs. c.in_default-link_past.ensures fs)

pub places-preserved : goal.places-preserved
places-preserved c =
    let bytes = c.args.bytes.now in
    let x = begun bytes c.requires in
    let k = c.word_at-capacity.ensures in
    let front = length bytes - c.word_at-capacity.result in
    let n = x.as_many in
    let q : front ≡ front_for (capacity_in bytes) = omega (arith, n, k) in
    let m : c.map_for-place-end.result ≡ map_for (capacity_in bytes) = c.map_for-place-end.ensures ∙ ap map_for k in
    let left = 8 * map_for (capacity_in bytes) - c.places.place in
    let more = 8 * map_for (capacity_in bytes) - (c.places.place + 1) in
    let t = c.places-test.true in
    let one : more + 1 ≡ left = omega (arith, t, m) in
    elim c.if-begins.branch [
      | then-begins+in-Some+in-Some-link_past w ↦
          let b : (bit_at 12 c.places.place bytes == 1) ≡ true = sym c.begins.ensures ∙ w.if-begins.true in
          let f = it_follows bytes c.places.end c.places.place w.in-Some.behind front c.word_at-capacity.result q k
          w.in-Some.ensures in
          let r = reading_goes bytes c.places.end c.places.link c.places.place left more front w.in-Some.behind
          w.in-Some-link_past.further c.places.invariant q b one f (λ fs. w.in-Some-link_past.ensures fs) in
          subst (λ y. Reading bytes y c.if-begins.link (c.places.place + 1) more) (sym w.end-is) (subst (λ y. Reading
          bytes w.in-Some.behind y (c.places.place + 1) more) (sym w.link-is) r)
      | else-begins w ↦
          let b : (bit_at 12 c.places.place bytes == 1) ≡ false = sym c.begins.ensures ∙ w.if-begins.false in
          let r = nothing_begins bytes c.places.end c.places.link c.places.place left more c.places.invariant b one in
          subst (λ y. Reading bytes y c.if-begins.link (c.places.place + 1) more) (sym w.end-is) (subst (λ y. Reading
          bytes c.places.end y (c.places.place + 1) more) (sym w.link-is) r)
    ]

pub returns-in-Some-link_past-2 : goal.returns-in-Some-link_past-2
returns-in-Some-link_past-2 c =
    let bytes = c.args.bytes.now in
    let x = begun bytes c.requires in
    let k = c.word_at-capacity.ensures in
    let front = length bytes - c.word_at-capacity.result in
    let n = x.as_many in
    let q : front ≡ front_for (capacity_in bytes) = omega (arith, n, k) in
    let m : c.map_for-place-end.result ≡ map_for (capacity_in bytes) = c.map_for-place-end.ensures ∙ ap map_for k in
    let left = 8 * map_for (capacity_in bytes) - c.places.place in
    let t = c.places-test.false in
    let none : left ≡ 0 = omega (arith, t, m) in
    sym (reading_ends bytes c.places.end c.places.link c.places.place left front c.word_at-capacity.result (Some
    c.in-Some-link_past-2.further) c.places.invariant none q k (λ fs. c.in-Some-link_past-2.ensures fs))

pub returns-in-None : goal.returns-in-None
returns-in-None c =
    let bytes = c.args.bytes.now in
    let x = begun bytes c.requires in
    let k = c.word_at-capacity.ensures in
    let front = length bytes - c.word_at-capacity.result in
    let n = x.as_many in
    let q : front ≡ front_for (capacity_in bytes) = omega (arith, n, k) in
    let m : c.map_for-place-end.result ≡ map_for (capacity_in bytes) = c.map_for-place-end.ensures ∙ ap map_for k in
    let left = 8 * map_for (capacity_in bytes) - c.places.place in
    let t = c.places-test.false in
    let none : left ≡ 0 = omega (arith, t, m) in
    sym (reading_ends bytes c.places.end c.places.link c.places.place left front c.word_at-capacity.result None
    c.places.invariant none q k (λ fs. c.in-None.ensures fs))

use Rattle.std.proofs.Common.{◌≡◌, ◌≤◌, ◌+◌, ◌-◌, sym, ap, ◌∙◌, subst, length, arith}
use Rattle.pli_typing.specs.Signatures.{footprint}
use Rattle.area_keeper.specs.Chain.{word_at, capacity_in}
use Rattle.free_keeper.specs.FreeList.{front_for, link_place}
use Rattle.free_heap.proofs.Opened.{opened}
use Rattle.free_heap.proofs.Calls.{frees, joined_writable}
use Rattle.free_heap.proofs.free_list.FreeListAreaKeeper.free.Goals as goal

pub overflow_cast-size : goal.overflow_cast-size
overflow_cast-size c =
    let bytes = c.args.bytes.now in
    let header = c.in_ok-header.header in
    let f = c.in_ok-header.ensures {u = tt} in
    let e : c.footprint-size.result ≡ footprint (word_at header bytes) = c.footprint-size.ensures ∙ ap footprint
    c.word_at.ensures in
    let w = frees bytes c.args.offset c.args.signature header c.footprint-size.result c.requires f e in
    let b = (opened bytes c.requires).bounded in
    record { fits = omega (arith, w, b) }

pub joined-requires-clause-within : goal.joined-requires-clause-within
joined-requires-clause-within c =
    let bytes = c.args.bytes.now in
    let header = c.in_ok-header.header in
    let f = c.in_ok-header.ensures {u = tt} in
    let e : c.footprint-size.result ≡ footprint (word_at header bytes) = c.footprint-size.ensures ∙ ap footprint
    c.word_at.ensures in
    frees bytes c.args.offset c.args.signature header c.footprint-size.result c.requires f e

pub write-requires-clause-inside : goal.write-requires-clause-inside
write-requires-clause-inside c =
    let bytes = c.args.bytes.now in
    let header = c.in_ok-header.header in
    let f = c.in_ok-header.ensures {u = tt} in
    let e : c.footprint-size.result ≡ footprint (word_at header bytes) = c.footprint-size.ensures ∙ ap footprint
    c.word_at.ensures in
    let j = c.joined.result in
    let w = joined_writable bytes c.args.offset c.args.signature header c.footprint-size.result j.before j.offset
    j.size j.link c.requires f e c.joined.ensures in
    let s = f.stands in
    let q : header - c.args.offset ≡ front_for (capacity_in bytes) = omega (arith, s) in
    let i = w.inside in
    omega (arith, i, q)

pub write-requires-clause-place : goal.write-requires-clause-place
write-requires-clause-place c =
    let bytes = c.args.bytes.now in
    let header = c.in_ok-header.header in
    let f = c.in_ok-header.ensures {u = tt} in
    let e : c.footprint-size.result ≡ footprint (word_at header bytes) = c.footprint-size.ensures ∙ ap footprint
    c.word_at.ensures in
    let j = c.joined.result in
    let w = joined_writable bytes c.args.offset c.args.signature header c.footprint-size.result j.before j.offset
    j.size j.link c.requires f e c.joined.ensures in
    let s = f.stands in
    let q : header - c.args.offset ≡ front_for (capacity_in bytes) = omega (arith, s) in
    subst (λ y. link_place y j.before + 4 ≤ length bytes) (sym q) w.place

pub write-requires-clause-small : goal.write-requires-clause-small
write-requires-clause-small c =
    let bytes = c.args.bytes.now in
    let header = c.in_ok-header.header in
    let f = c.in_ok-header.ensures {u = tt} in
    let e : c.footprint-size.result ≡ footprint (word_at header bytes) = c.footprint-size.ensures ∙ ap footprint
    c.word_at.ensures in
    let j = c.joined.result in
    let w = joined_writable bytes c.args.offset c.args.signature header c.footprint-size.result j.before j.offset
    j.size j.link c.requires f e c.joined.ensures in
    let s = f.stands in
    let q : header - c.args.offset ≡ front_for (capacity_in bytes) = omega (arith, s) in
    w.small

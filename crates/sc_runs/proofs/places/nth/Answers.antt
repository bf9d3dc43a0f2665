use Rattle.std.proofs.Common.{rules, ap, sym, ◌∙◌, Some, to_z, of_z}
use Rattle.std.specs.Prelude.{nat_lt}
use Rattle.std.specs.Int.{w128}
use Rattle.std.proofs.lemmas.Int.{to_z-of_z}
use Rattle.std.proofs.lemmas.List.Sorted.{IsPartitionPoint-from_clause}
use Rattle.sc_runs.proofs.Placed.{parted, found, found_nowhere}
use Rattle.sc_runs.proofs.places.nth.Goals as goal

pub bounds-lasts-at : goal.bounds-lasts-at
bounds-lasts-at c =
    let point = IsPartitionPoint-from_clause (λ y. nat_lt y c.args.place) _ _ c.partition_point-at.ensures.partitioned (parted c.args.spans.now c.args.lasts.now c.args.place c.requires.lasts) (λ a r q k. search rules) in
    let f = found c.args.spans.now c.args.lasts.now c.args.place c.partition_point-at.result c.in-Some.span.now c.requires.apart c.requires.lasts point (search rules) (search rules) in
    f.within

pub value_in-requires-clause-proper : goal.value_in-requires-clause-proper
value_in-requires-clause-proper c =
    let point = IsPartitionPoint-from_clause (λ y. nat_lt y c.args.place) _ _ c.partition_point-at.ensures.partitioned (parted c.args.spans.now c.args.lasts.now c.args.place c.requires.lasts) (λ a r q k. search rules) in
    let f = found c.args.spans.now c.args.lasts.now c.args.place c.partition_point-at.result c.in-Some.span.now c.requires.apart c.requires.lasts point (search rules) (search rules) in
    f.proper

pub value_in-requires-clause-before : goal.value_in-requires-clause-before
value_in-requires-clause-before c =
    let point = IsPartitionPoint-from_clause (λ y. nat_lt y c.args.place) _ _ c.partition_point-at.ensures.partitioned (parted c.args.spans.now c.args.lasts.now c.args.place c.requires.lasts) (λ a r q k. search rules) in
    let f = found c.args.spans.now c.args.lasts.now c.args.place c.partition_point-at.result c.in-Some.span.now c.requires.apart c.requires.lasts point (search rules) (search rules) in
    f.before

pub value_in-requires-clause-within : goal.value_in-requires-clause-within
value_in-requires-clause-within c =
    let point = IsPartitionPoint-from_clause (λ y. nat_lt y c.args.place) _ _ c.partition_point-at.ensures.partitioned (parted c.args.spans.now c.args.lasts.now c.args.place c.requires.lasts) (λ a r q k. search rules) in
    let f = found c.args.spans.now c.args.lasts.now c.args.place c.partition_point-at.result c.in-Some.span.now c.requires.apart c.requires.lasts point (search rules) (search rules) in
    f.reach

pub returns-in-Some : goal.returns-in-Some
returns-in-Some c =
    let point = IsPartitionPoint-from_clause (λ y. nat_lt y c.args.place) _ _ c.partition_point-at.ensures.partitioned (parted c.args.spans.now c.args.lasts.now c.args.place c.requires.lasts) (λ a r q k. search rules) in
    let f = found c.args.spans.now c.args.lasts.now c.args.place c.partition_point-at.result c.in-Some.span.now c.requires.apart c.requires.lasts point (search rules) (search rules) in
    ap (λ z. Some (to_z w128 (of_z w128 z))) c.value_in.ensures ∙ (ap Some (to_z-of_z w128 _ f.fits) ∙ sym f.value)

pub returns-in-None : goal.returns-in-None
returns-in-None c =
    let point = IsPartitionPoint-from_clause (λ y. nat_lt y c.args.place) _ _ c.partition_point-at.ensures.partitioned (parted c.args.spans.now c.args.lasts.now c.args.place c.requires.lasts) (λ a r q k. search rules) in
    found_nowhere c.args.spans.now c.args.lasts.now c.args.place c.partition_point-at.result c.requires.lasts point (search rules)

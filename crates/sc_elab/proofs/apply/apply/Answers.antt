use Rattle.std.proofs.Common.{◌≡◌, ◌+◌, ◌<◌, arith, suc, ℕ, List, [], None, Ok, Err, subst, sym, ap, rules}
use Rattle.sc_terms.specs.declared.nodes.Node.{Node}
use Rattle.sc_terms.specs.declared.nodes.Sort.{Sort}
use Rattle.sc_elab.specs.declared.meant.Meant.{Meant}
use Rattle.sc_elab.specs.Builds.{build}
use Rattle.sc_elab.specs.States.{Outcome, Done}
use Rattle.sc_elab.specs.Growth.{Builds, Suits, IsMeant, Makes}
use Rattle.sc_elab.specs.Elab as spec
use Rattle.sc_elab.proofs.Growing.{stop, go_on, builds_same, same_grown}
use Rattle.sc_elab.proofs.Arguments.{suits, made_is, shallow}
use Rattle.sc_elab.proofs.apply.apply.Goals as goal

abbrev of_depth : Sort → ℕ → ℕ → List Node → Outcome Meant
of_depth sort depth n b = Done (spec.meant sort depth n) b

pub overflow_add-depth : goal.overflow_add-depth
overflow_add-depth c =
    let none : spec.application_fault c.args.operator c.args.terms.now ≡ None = search rules in
    let low : spec.deepest c.args.terms.now < 1000 = shallow c.args.operator c.args.terms.now none in
    let is : c.deepest-depth.result ≡ spec.deepest c.args.terms.now = c.deepest-depth.ensures in
    omega (low, is, arith)

pub build-requires : goal.build-requires
build-requires c =
    let none : spec.application_fault c.args.operator c.args.terms.now ≡ None = search rules in
    subst (λ s. Suits c.args.bank.now c.args.operator s c.in-Ok.arguments) (sym c.first_sort-sort.ensures) (subst (Suits c.args.bank.now c.args.operator (spec.first_sort c.args.terms.now)) (sym c.in-Ok.ensures.ok) (suits c.args.bank.now c.args.operator c.args.terms.now none c.requires))

pub returns-in-Ok-build : goal.returns-in-Ok-build
returns-in-Ok-build c =
    let ms = c.args.terms.now in
    let o = c.args.operator in
    let sort = spec.sort_made o (spec.first_sort ms) in
    let none : spec.application_fault o ms ≡ None = search rules in
    let deep : suc (spec.deepest ms) ≡ c.deepest-depth.result + 1 = search rules in
    let kind : c.sort_made.result ≡ sort = search rules in
    let made = subst (λ ns. Builds (Makes o) (build o c.first_sort-sort.result ns c.args.bank.now) c.args.bank.now (Ok c.in-Ok-build.number) c.build.new.bank) c.in-Ok.ensures.ok c.in-Ok-build.ensures in
    let again = subst (λ s. Builds (Makes o) (build o s (spec.numbers ms) c.args.bank.now) c.args.bank.now (Ok c.in-Ok-build.number) c.build.new.bank) c.first_sort-sort.ensures made in
    let last : Builds IsMeant (of_depth sort (suc (spec.deepest ms)) c.in-Ok-build.number c.build.new.bank) c.build.new.bank (Ok (spec.meant sort (c.deepest-depth.result + 1) c.in-Ok-build.number)) c.build.new.bank = λ known. record { exact = ap (λ d. of_depth sort d c.in-Ok-build.number c.build.new.bank) deep; stands = made_is c.build.new.bank o ms c.in-Ok-build.number none (again []).stands; grown = same_grown known c.build.new.bank } in
    subst (λ s. Builds IsMeant (spec.apply o ms c.args.bank.now) c.args.bank.now (Ok (spec.meant s (c.deepest-depth.result + 1) c.in-Ok-build.number)) c.build.new.bank) (sym kind)
    (builds_same (ap (λ f. spec.built f o ms c.args.bank.now) none) (go_on (of_depth sort (suc (spec.deepest ms))) again last))

pub returns-in-Err-build : goal.returns-in-Err-build
returns-in-Err-build c =
    let ms = c.args.terms.now in
    let o = c.args.operator in
    let none : spec.application_fault o ms ≡ None = search rules in
    let made = subst (λ ns. Builds (Makes o) (build o c.first_sort-sort.result ns c.args.bank.now) c.args.bank.now (Err c.in-Err-build.error) c.build.new.bank) c.in-Ok.ensures.ok c.in-Err-build.ensures in
    let again = subst (λ s. Builds (Makes o) (build o s (spec.numbers ms) c.args.bank.now) c.args.bank.now (Err c.in-Err-build.error) c.build.new.bank) c.first_sort-sort.ensures made in
    builds_same (ap (λ f. spec.built f o ms c.args.bank.now) none) (stop (of_depth (spec.sort_made o (spec.first_sort ms)) (suc (spec.deepest ms))) again)

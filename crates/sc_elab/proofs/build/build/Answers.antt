use Rattle.std.proofs.Common.{◌≡◌, ◌≤◌, length, get_or, [], ◌∷◌, take, drop, ◌-◌, sym, ◌∙◌, refl, rules}
use Rattle.sc_elab.specs.declared.words.Operator.TheVariants as op
use Rattle.sc_elab.proofs.Growing.{of_operator}
use Rattle.sc_elab.proofs.Arguments.{list_one, list_two, list_three, list_more}
use Rattle.sc_elab.proofs.build.build.Goals as goal

pub returns-in-And : goal.returns-in-And
returns-in-And c = of_operator c.args.operator op.And c.args.sort c.args.arguments c.args.arguments c.in-And.is refl c.put_formula.ensures

pub returns-in-Or : goal.returns-in-Or
returns-in-Or c = of_operator c.args.operator op.Or c.args.sort c.args.arguments c.args.arguments c.in-Or.is refl c.put_formula-in-Or.ensures

pub returns-in-len1 : goal.returns-in-len1
returns-in-len1 c =
    let long : length c.as_slice.result.now ≡ 1 = search rules in
    of_operator c.args.operator op.Not c.args.sort c.args.arguments (get_or c.as_slice.result.now 0 0 ∷ []) c.in-Not.is (sym c.as_slice.ensures ∙ list_one c.as_slice.result.now long) c.put_formula-in-len1.ensures

pub returns-in-Implies : goal.returns-in-Implies
returns-in-Implies c = of_operator c.args.operator op.Implies c.args.sort c.args.arguments c.as_slice-in-Implies.result.now c.in-Implies.is (sym c.as_slice-in-Implies.ensures) c.implication.ensures

pub returns-in-len1-up : goal.returns-in-len1-up
returns-in-len1-up c =
    let long : 1 ≤ length c.as_slice-in-Xor.result.now = search rules in
    of_operator c.args.operator op.Xor c.args.sort c.args.arguments (get_or c.as_slice-in-Xor.result.now 0 0 ∷ take (length c.as_slice-in-Xor.result.now - 1) (drop 1 c.as_slice-in-Xor.result.now)) c.in-Xor.is (sym c.as_slice-in-Xor.ensures ∙ list_more c.as_slice-in-Xor.result.now long) c.exclusive.ensures

pub returns-in-len1-up-as_slice : goal.returns-in-len1-up-as_slice
returns-in-len1-up-as_slice c =
    let long : 1 ≤ length c.as_slice-in-Equal.result.now = search rules in
    of_operator c.args.operator op.Equal c.args.sort c.args.arguments (get_or c.as_slice-in-Equal.result.now 0 0 ∷ take (length c.as_slice-in-Equal.result.now - 1) (drop 1 c.as_slice-in-Equal.result.now)) c.in-Equal.is (sym c.as_slice-in-Equal.ensures ∙ list_more c.as_slice-in-Equal.result.now long) c.chain.ensures

pub returns-in-Distinct : goal.returns-in-Distinct
returns-in-Distinct c = of_operator c.args.operator op.Distinct c.args.sort c.args.arguments c.as_slice-in-Distinct.result.now c.in-Distinct.is (sym c.as_slice-in-Distinct.ensures) c.apart.ensures

pub returns-in-len3 : goal.returns-in-len3
returns-in-len3 c =
    let long : length c.as_slice-in-Choice.result.now ≡ 3 = search rules in
    of_operator c.args.operator op.Choice c.args.sort c.args.arguments (get_or c.as_slice-in-Choice.result.now 0 0 ∷ get_or c.as_slice-in-Choice.result.now 1 0 ∷ get_or c.as_slice-in-Choice.result.now 2 0 ∷ []) c.in-Choice.is (sym c.as_slice-in-Choice.ensures ∙ list_three c.as_slice-in-Choice.result.now long) c.choice.ensures

pub returns-in-len2 : goal.returns-in-len2
returns-in-len2 c =
    let long : length c.as_slice-in-Member.result.now ≡ 2 = search rules in
    of_operator c.args.operator op.Member c.args.sort c.args.arguments (get_or c.as_slice-in-Member.result.now 0 0 ∷ get_or c.as_slice-in-Member.result.now 1 0 ∷ []) c.in-Member.is (sym c.as_slice-in-Member.ensures ∙ list_two c.as_slice-in-Member.result.now long) c.put_formula-in-len2.ensures

pub returns-in-len2-as_slice : goal.returns-in-len2-as_slice
returns-in-len2-as_slice c =
    let long : length c.as_slice-in-Subset.result.now ≡ 2 = search rules in
    of_operator c.args.operator op.Subset c.args.sort c.args.arguments (get_or c.as_slice-in-Subset.result.now 0 0 ∷ get_or c.as_slice-in-Subset.result.now 1 0 ∷ []) c.in-Subset.is (sym c.as_slice-in-Subset.ensures ∙ list_two c.as_slice-in-Subset.result.now long) c.inclusion.ensures

pub returns-in-len1-up-as_slice-2 : goal.returns-in-len1-up-as_slice-2
returns-in-len1-up-as_slice-2 c =
    let long : 1 ≤ length c.as_slice-in-Union.result.now = search rules in
    of_operator c.args.operator op.Union c.args.sort c.args.arguments (get_or c.as_slice-in-Union.result.now 0 0 ∷ take (length c.as_slice-in-Union.result.now - 1) (drop 1 c.as_slice-in-Union.result.now)) c.in-Union.is (sym c.as_slice-in-Union.ensures ∙ list_more c.as_slice-in-Union.result.now long) c.grouped.ensures

pub returns-in-len1-up-as_slice-3 : goal.returns-in-len1-up-as_slice-3
returns-in-len1-up-as_slice-3 c =
    let long : 1 ≤ length c.as_slice-in-Inter.result.now = search rules in
    of_operator c.args.operator op.Inter c.args.sort c.args.arguments (get_or c.as_slice-in-Inter.result.now 0 0 ∷ take (length c.as_slice-in-Inter.result.now - 1) (drop 1 c.as_slice-in-Inter.result.now)) c.in-Inter.is (sym c.as_slice-in-Inter.ensures ∙ list_more c.as_slice-in-Inter.result.now long) c.grouped-in-len1-up-as_slice-3.ensures

pub returns-in-len2-as_slice-2 : goal.returns-in-len2-as_slice-2
returns-in-len2-as_slice-2 c =
    let long : length c.as_slice-in-Minus.result.now ≡ 2 = search rules in
    of_operator c.args.operator op.Minus c.args.sort c.args.arguments (get_or c.as_slice-in-Minus.result.now 0 0 ∷ get_or c.as_slice-in-Minus.result.now 1 0 ∷ []) c.in-Minus.is (sym c.as_slice-in-Minus.ensures ∙ list_two c.as_slice-in-Minus.result.now long) c.put_set_term.ensures

pub returns-in-len1-as_slice : goal.returns-in-len1-as_slice
returns-in-len1-as_slice c =
    let long : length c.as_slice-in-Singleton.result.now ≡ 1 = search rules in
    of_operator c.args.operator op.Singleton c.args.sort c.args.arguments (get_or c.as_slice-in-Singleton.result.now 0 0 ∷ []) c.in-Singleton.is (sym c.as_slice-in-Singleton.ensures ∙ list_one c.as_slice-in-Singleton.result.now long) c.put_set_term-in-len1-as_slice.ensures

pub returns : goal.returns
returns c = of_operator c.args.operator op.Insert c.args.sort c.args.arguments c.as_slice-in-Insert.result.now c.in-Insert.is (sym c.as_slice-in-Insert.ensures) c.insertion.ensures

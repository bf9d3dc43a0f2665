use Rattle.sc_session.proofs.session.Session.do_quick.Goals as goal

pub returns-in-DeclareSort-clause-does : goal.returns-in-DeclareSort-clause-does
returns-in-DeclareSort-clause-does c = λ b. rw c.in-DeclareSort.is (c.declare_sort.ensures b)

pub returns-in-DeclareConst-clause-does : goal.returns-in-DeclareConst-clause-does
returns-in-DeclareConst-clause-does c = λ b. rw c.in-DeclareConst.is (c.declare_const.ensures b)

pub returns-in-DeclareFun-clause-does : goal.returns-in-DeclareFun-clause-does
returns-in-DeclareFun-clause-does c = λ b. rw c.in-DeclareFun.is (c.declare_fun.ensures b)

pub returns-in-Assert-clause-does : goal.returns-in-Assert-clause-does
returns-in-Assert-clause-does c = λ b. rw c.in-Assert.is (c.assert.ensures b)

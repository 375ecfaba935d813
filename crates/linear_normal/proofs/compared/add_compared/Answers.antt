use Rattle.std.proofs.Common.{◌∙◌, ap, map}
use Rattle.linear_normal.specs.inner.Tables.{opposite_item}
use Rattle.linear_normal.proofs.PartLemmas.{ok_then, less_equal, less, greater_equal, greater, equal, not_equal}
use Rattle.linear_normal.proofs.WrapLemmas.{same_number, less_number, opposite_number, opposite_less}
use Rattle.linear_normal.proofs.compared.add_compared.Goals as goal

pub returns-in-LessEqual-clause-takes : goal.returns-in-LessEqual-clause-takes
returns-in-LessEqual-clause-takes c = ok_then _ _ (λ n put. less_equal _ _ _ _ _ n c.in-LessEqual.is _ (same_number c.args.k c.requires.number) put) c.put.result c.put.ensures.puts

pub returns-in-Less-clause-takes : goal.returns-in-Less-clause-takes
returns-in-Less-clause-takes c = ok_then _ _ (λ n put. less _ _ _ _ _ n c.in-Less.is _ (less_number c.args.k c.requires.number) put) c.put-in-Less.result c.put-in-Less.ensures.puts

pub returns-in_ok-other-in-GreaterEqual-clause-takes : goal.returns-in_ok-other-in-GreaterEqual-clause-takes
returns-in_ok-other-in-GreaterEqual-clause-takes c =
    let turn = c.in_ok-other-in-GreaterEqual.ensures ∙ ap (map opposite_item) c.items-in-GreaterEqual.ensures in
    ok_then _ _ (λ n put. greater_equal _ _ _ _ _ n _ turn c.in-GreaterEqual.is _ (opposite_number c.args.k c.requires.number) put) c.put-in-GreaterEqual.result c.put-in-GreaterEqual.ensures.puts

pub returns-in_ok-other-in-Greater-clause-takes : goal.returns-in_ok-other-in-Greater-clause-takes
returns-in_ok-other-in-Greater-clause-takes c =
    let turn = c.in_ok-other-in-Greater.ensures ∙ ap (map opposite_item) c.items-in-Greater-2.ensures in
    ok_then _ _ (λ n put. greater _ _ _ _ _ n _ turn c.in-Greater.is _ (opposite_less c.args.k c.requires.number) put) c.put-in-Greater.result c.put-in-Greater.ensures.puts

pub returns-in_ok-other-in-Equal-clause-takes : goal.returns-in_ok-other-in-Equal-clause-takes
returns-in_ok-other-in-Equal-clause-takes c =
    let turn = c.in_ok-other-in-Equal.ensures ∙ ap (map opposite_item) c.items-in-Equal-2.ensures in
    ok_then _ _ (λ n takes. equal _ _ _ _ _ n _ turn c.in-Equal.is _ _ (same_number c.args.k c.requires.number) (opposite_number c.args.k c.requires.number) takes) c.add_both.result c.add_both.ensures.takes

pub returns-in_ok-other-in-NotEqual-clause-takes : goal.returns-in_ok-other-in-NotEqual-clause-takes
returns-in_ok-other-in-NotEqual-clause-takes c =
    let turn = c.in_ok-other-in-NotEqual.ensures ∙ ap (map opposite_item) c.items-in-NotEqual-2.ensures in
    ok_then _ _ (λ n takes. not_equal _ _ _ _ _ n _ turn c.in-NotEqual.is _ _ (less_number c.args.k c.requires.number) (opposite_less c.args.k c.requires.number) takes) c.add_either.result c.add_either.ensures.takes

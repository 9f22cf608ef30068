use Rattle.std.proofs.lemmas.Bool.{lt-ltb}
use Rattle.rows.proofs.Growing.{grown_more}
use Rattle.reader.proofs.reader.begin.Goals as goal

pub returns-clause-begins : goal.returns-clause-begins
returns-clause-begins c start rows grown =
    grown_more start c.args.row.now c.append.new.self rows _ grown (lt-ltb _ _ c.requires) c.append.ensures.count (rw c.opened.ensures at c.append.ensures.items)

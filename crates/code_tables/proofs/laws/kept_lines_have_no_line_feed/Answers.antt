use Rattle.code_tables.proofs.NoFeeds.{lines_have_no_feed}
use Rattle.code_tables.proofs.laws.kept_lines_have_no_line_feed.Goals as goal

pub returns : goal.returns
returns c = λ lines there. lines_have_no_feed there lines

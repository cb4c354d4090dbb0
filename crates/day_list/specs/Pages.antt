-- Both halves of a day, one after the other, on blank tables and a blank row.
use Rattle.std.specs.Prelude.{List, ℕ, ◌*◌, replicate}
use Rattle.def_terms.specs.declared.Sizes.{Sizes}
use Rattle.def_sheets.specs.Job.{Job}
use Rattle.def_day.specs.Rounds.{blank_tables}
use Rattle.day_text.specs.Page.{Page}
use Rattle.day_begin.specs.Begun.{begun}
use Rattle.day_end.specs.Ended.{ended}

-- a hand-out takes two words
unfoldable pub day_page : ℕ → Page → Sizes → List Job → Page
day_page limit p s js =
    let b = begun limit p s (blank_tables s) js in
    ended limit b.paper s b.state (replicate (2 * s.jobs) 0)

-- `put_entry` stores the parts of an entry one after the other.
use mathlib.Core.Path.{ap, ◌∙◌}
use Rattle.def_sheets.specs.Offset.{Part, put}
use Rattle.sheet_writer.specs.Put.{job_in}
use Rattle.sheet_writer.proofs.Puts.{due}
use Rattle.sheet_writer.proofs.put_entry.Goals as goal

pub put_own_name-offset-requires : goal.put_own_name-offset-requires
put_own_name-offset-requires c =
    due Part.name c.requires c.put_map-offset.ensures

pub put_list-offset-requires : goal.put_list-offset-requires
put_list-offset-requires c =
    let j = job_in c.args.words.now c.args.fields in
    due Part.list c.requires
    (c.put_own_name-offset.ensures ∙ ap (put Part.name j) c.put_map-offset.ensures)

pub put_class-offset-requires : goal.put_class-offset-requires
put_class-offset-requires c =
    let j = job_in c.args.words.now c.args.fields in
    due Part.class c.requires
    (c.put_list-offset.ensures
    ∙ ap (put Part.list j) (c.put_own_name-offset.ensures
    ∙ ap (put Part.name j) c.put_map-offset.ensures))

pub put_grower-requires : goal.put_grower-requires
put_grower-requires c =
    let j = job_in c.args.words.now c.args.fields in
    due Part.grower c.requires
    (c.put_class-offset.ensures
    ∙ ap (put Part.class j) (c.put_list-offset.ensures
    ∙ ap (put Part.list j) (c.put_own_name-offset.ensures
    ∙ ap (put Part.name j) c.put_map-offset.ensures)))

use Rattle.std.proofs.Common.{◌≡◌, [], map, take}
use Rattle.kd_model.specs.Words.{those}
use Rattle.kd_tables.specs.Drafts.{parts_with}
use Rattle.kd_messages.specs.News.{still_told, news_subject, telling_of}
use Rattle.kd_commands.specs.Plans.{posted}
use Rattle.kd_messages.proofs.notices.posts.Given as goal

abbrev pub invariant-receivers : goal.invariant-receivers
invariant-receivers l = parts_with [] l.parts.items ≡ map (posted (telling_of l.news)) (those (still_told l.leavers l.desk (news_subject l.news)) (take l.conn-index l.desk.conns))

-- What the bus tells by itself, as the code holds it.
use Rattle.std.specs.Prelude.{ℕ, Bool, not, ◌&&◌, List, [], ◌∷◌}
use Rattle.kd_image.specs.declared.notice.Notice.TheVariants as notice
use Rattle.kd_replies.specs.Requests.{is_among}
use Rattle.kd_commands.specs.declared.conn.Conn.{Conn}
use Rattle.kd_messages.specs.declared.notices.News.{News}
use Rattle.kd_messages.specs.declared.notices.News.TheVariants as news
use Rattle.kd_commands.specs.State.{Desk}
use Rattle.kd_commands.specs.Audience.{Subject, Telling, id_add, id_remove, new_owner, reply_dead, reply_timeout, owner_notice, is_told}
use Rattle.kd_commands.specs.Leaving.{without_conns}

-- what is told
abbrev pub news_subject : News → Subject
news_subject (news.Came id) = id_add id
news_subject (news.Left id) = id_remove id
news_subject (news.Owner c) = new_owner c.now
news_subject (news.Dead asker cookie) = reply_dead asker cookie
news_subject (news.Late asker cookie) = reply_timeout asker cookie

-- its notice, and the id that its image names as destination
abbrev pub telling_of : News → Telling
telling_of (news.Came id) = record { notice = notice.IdAdd id; dst = 0 }
telling_of (news.Left id) = record { notice = notice.IdRemove id; dst = 0 }
telling_of (news.Owner c) = record { notice = owner_notice c.now; dst = 0 }
telling_of (news.Dead asker cookie) = record { notice = notice.ReplyDead cookie; dst = asker }
telling_of (news.Late asker cookie) = record { notice = notice.ReplyTimeout cookie; dst = asker }

-- the desk without those that leave; where nobody does, as it is
abbrev pub without_leavers : List ℕ → Desk → Desk
without_leavers [] d = d
without_leavers (id ∷ ids) d = without_conns d (id ∷ ids)

-- a connection that stays is told
abbrev pub still_told : List ℕ → Desk → Subject → Conn → Bool
still_told leavers d s c = not (is_among leavers c.id) && is_told d s c

-- Where bytes break a format, said of the format and not of its reader. A reader has to believe
-- what `kd_wire` says of whole replies and `kd_image` of whole images, and these.

-- replies
pub mod Replies
-- the items and the payloads of images
pub mod Images
-- images, whole
pub mod Whole

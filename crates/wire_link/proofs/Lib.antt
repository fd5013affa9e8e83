mod ChunkLaws
mod CopyLaws
mod ShortInfos
